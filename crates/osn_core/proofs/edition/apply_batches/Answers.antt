use Rattle.std.proofs.Common.{ap, ◌∙◌, arith}
use Rattle.osn_days.specs.Rules.{newest_rules}
use Rattle.osn_register.specs.Plain.{after_edits}
use Rattle.osn_core.proofs.BatchLemmas.{batch_more}
use Rattle.osn_core.proofs.edition.apply_batches.Goals as goal

pub loop-batch-preserved : goal.loop-batch-preserved
loop-batch-preserved c =
    let l = c.loop-batch in
    let one = c.in_ok-apply_all.ensures.ok in
    record {
      limits = ap (λ r. r.limits) one ∙ l.invariant.limits;
      territories = batch_more _ _ _ _ _ c.args.batches.now l.batch-index c.batch-item.result
          (omega arith) c.batch-item.is l.invariant.limits
          (ap (λ r. r.territories) one
          ∙ ap (after_edits newest_rules l.register.limits l.register.territories) c.edits.ensures)
          l.invariant.territories;
    }
