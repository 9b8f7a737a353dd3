use Rattle.std.proofs.Common.{subst, List, ℕ}
use Rattle.osn_journal.specs.RoundInside.{RefusesLine}
use Rattle.osn_journal.proofs.AllRoundsLemmas.{look_failed}
use Rattle.osn_journal.proofs.follower.look.Goals as goal

pub returns-clause-err : goal.returns-clause-err
returns-clause-err g c =
    look_failed c.args.journal.now _ _ c.in_ok-new_bytes.new_bytes.items c.in-Err.fault
    c.unloaded.result
    c.in_ok-new_bytes.ensures.ok c.unloaded.ensures
    (λ memory.
    subst (λ (l : List ℕ). RefusesLine c.args.journal.now l c.in-Err.fault) c.deref.ensures.value
    (c.in-Err.ensures.err memory))
