use Rattle.std.proofs.Common.{◌≡◌}
use Rattle.osn_core.specs.Control.{all_idle}
use Rattle.osn_core.proofs.readers.Readers.new.Given as goal

abbrev pub invariant-loop : goal.invariant-loop
invariant-loop l = l.states.items ≡ all_idle l.counter
