use Rattle.std.proofs.Common.{◌+◌, drop, ap, sym, subst, ◌∙◌, arith}
use Rattle.osn_days.specs.Rules.{newest_rules}
use Rattle.osn_register.specs.Plain.{after_edits}
use Rattle.osn_register.specs.Lawful.{AreLawful}
use Rattle.osn_core.specs.Sequential.{joined}
use Rattle.osn_file_commands.proofs.EditLemmas.{batch_more, next_batch_lawful}
use Rattle.osn_file_commands.proofs.audit_follower.admit_batches.Goals as goal

pub admit_edits-requires : goal.admit_edits-requires
admit_edits-requires c =
    let l = c.loop-batch in
    let limits = c.args.register.now.limits in
    let batch = c.batch-item.result in
    subst (λ m. AreLawful newest_rules m l.register.territories c.edits.result.now)
    (sym l.invariant.limits)
    (subst (AreLawful newest_rules limits l.register.territories) (sym c.edits.ensures)
    (next_batch_lawful limits l.register.territories c.args.batches.now l.batch-index batch
    (omega arith) c.batch-item.is l.invariant.lawful).0)

pub loop-batch-preserved : goal.loop-batch-preserved
loop-batch-preserved c =
    let l = c.loop-batch in
    let one = c.in_ok-admit_edits.ensures in
    let limits = c.args.register.now.limits in
    let batches = c.args.batches.now in
    let old = l.register.territories in
    let batch = c.batch-item.result in
    let new =
    ap (λ r. r.territories) one
    ∙ ap (after_edits newest_rules l.register.limits old) c.edits.ensures in
    record {
      limits = ap (λ r. r.limits) one ∙ l.invariant.limits;
      lawful = subst
          (λ ls. AreLawful newest_rules limits ls (joined (drop (l.batch-index + 1) batches)))
          (sym (new ∙ ap (λ m. after_edits newest_rules m old batch) l.invariant.limits))
          (next_batch_lawful limits old batches l.batch-index batch (omega arith) c.batch-item.is
          l.invariant.lawful).1;
      territories = batch_more _ _ _ _ _ batches l.batch-index batch (omega arith) c.batch-item.is
          l.invariant.limits new l.invariant.territories;
    }
