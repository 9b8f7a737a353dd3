use Rattle.std.proofs.Common.{◌≡◌, take, true}
use Rattle.std.specs.List.{list_all}
use Rattle.osn_letters.specs.Runs.{joins}
use Rattle.osn_letters.proofs.parser.run_len.Given as goal

-- the bytes so far are neither that one nor line ends
abbrev pub invariant-loop-index : goal.invariant-loop-index
invariant-loop-index l = list_all (joins l.end) (take l.index l.bytes) ≡ true
