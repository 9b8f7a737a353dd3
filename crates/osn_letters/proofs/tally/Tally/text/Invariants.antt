use Rattle.std.proofs.Common.{◌≡◌, ◌++◌, map, string_bytes}
use Rattle.osn_letters.specs.Tally.{remark_lines, tally_text}
use Rattle.osn_letters.proofs.TallyFacts.{plain_entry}
use Rattle.osn_letters.proofs.tally.Tally.text.Given as goal

-- the text so far, and the lines of the remarks that are left
abbrev pub invariant-loop-words : goal.invariant-loop-words
invariant-loop-words l =
    string_bytes l.text ++ remark_lines l.front (map plain_entry l.words-iterator)
    ≡ tally_text l.front l.self
