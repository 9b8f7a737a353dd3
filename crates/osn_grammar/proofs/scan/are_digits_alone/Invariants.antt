use Rattle.std.proofs.Common.{◌≡◌, drop}
use Rattle.osn_grammar.specs.Scan.{are_digits_alone}
use Rattle.osn_grammar.proofs.scan.are_digits_alone.Given as goal

-- what is left decides
abbrev pub invariant-loop-character : goal.invariant-loop-character
invariant-loop-character l =
    are_digits_alone l.characters ≡ are_digits_alone (drop l.character-index l.characters)
