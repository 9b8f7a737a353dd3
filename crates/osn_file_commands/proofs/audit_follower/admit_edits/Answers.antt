use Rattle.std.proofs.Common.{◌≡◌, ◌+◌, None, drop, ap, sym, subst, ◌∙◌, arith}
use Rattle.osn_days.specs.Rules.{newest_rules}
use Rattle.osn_register.specs.Plain.{refusal}
use Rattle.osn_register.specs.Lawful.{AreLawful}
use Rattle.osn_file_commands.proofs.EditLemmas.{next_lawful, edit_more}
use Rattle.osn_file_commands.proofs.audit_follower.admit_edits.Goals as goal

pub admit-requires : goal.admit-requires
admit-requires c =
    let l = c.loop-edit in
    let edit = c.edit-item.result in
    subst (λ m. refusal newest_rules m l.register.territories edit ≡ None) (sym l.invariant.limits)
    (next_lawful c.args.register.now.limits l.register.territories c.args.edits.now l.edit-index
    edit (omega arith) c.edit-item.is l.invariant.lawful).0

pub loop-edit-preserved : goal.loop-edit-preserved
loop-edit-preserved c =
    let l = c.loop-edit in
    let one = c.in_ok-admit.ensures.ok in
    let limits = c.args.register.now.limits in
    let edits = c.args.edits.now in
    let old = l.register.territories in
    let edit = c.edit-item.result in
    record {
      limits = ap (λ r. r.limits) one ∙ l.invariant.limits;
      lawful = subst (λ ls. AreLawful newest_rules limits ls (drop (l.edit-index + 1) edits))
          (sym (ap (λ r. r.territories) one))
          (next_lawful limits old edits l.edit-index edit (omega arith) c.edit-item.is
          l.invariant.lawful).1;
      territories = edit_more limits old _ _ edits l.edit-index edit (omega arith) c.edit-item.is
          (ap (λ r. r.territories) one) l.invariant.lawful l.invariant.territories;
    }
