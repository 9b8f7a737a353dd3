use Rattle.std.proofs.Common.{◌≡◌, ◌++◌, [], take, drop, string_bytes}
use Rattle.osn_page_commands.specs.EditionList as spec
use Rattle.osn_page_commands.proofs.editions.push_codes.Given as goal

-- the codes of the edits that are left are still to come
abbrev pub invariant-loop-place : goal.invariant-loop-place
invariant-loop-place l =
    string_bytes l.initial.out ++ spec.codes_after [] l.edits
    ≡ string_bytes l.out ++ spec.codes_after (take l.place l.edits) (drop l.place l.edits)
