use Rattle.std.proofs.Common.{arith, ap, sym, subst, length, rules}
use Rattle.osn_core.specs.declared.phase.Phase.TheVariants.{Ready}
use Rattle.osn_core.specs.Control.{reader_at}
use Rattle.osn_core.specs.CoreInside.{IsPlaced}
use Rattle.osn_core.proofs.Knows.{idle_at}
use Rattle.osn_core.proofs.machine.Core.new.Goals as goal

pub invariant_of-result : goal.invariant_of-result
invariant_of-result c =
    let n = length c.new-2.result.object.batches in
    record {
      side = omega arith;
      lag = ap (λ s. s.lag) c.new-2.ensures;
      readers = λ r. subst (λ rs. IsPlaced 0 Ready n (reader_at rs r)) (sym c.in_ok-readers.ensures)
          (idle_at (IsPlaced 0 Ready n) tt tt c.args.readers r);
    }

pub returns-then-readers-eq0-clause-refused : goal.returns-then-readers-eq0-clause-refused
returns-then-readers-eq0-clause-refused c = search rules
