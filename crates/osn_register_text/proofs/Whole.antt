-- What a plan is, and why there is none, from its three parts.
use Rattle.std.proofs.Common.{◌≡◌, List, None, sym, subst, ◌∙◌}
use Rattle.osn_days.specs.Rules.{newest_rules}
use Rattle.osn_register.specs.declared.edit.Edit.{Edit}
use Rattle.osn_register.specs.Lawful.{AreLawful}
use Rattle.osn_register.specs.Plain.{RegisterModel, after_edits, IsWellFormed}
use Rattle.osn_register_text.specs.declared.plan_fault.PlanFault.{PlanFault}
use Rattle.osn_register_text.specs.Fault.{first_renamed, IsTrialFault, IsFault}
use Rattle.osn_register_text.specs.Plan.{IsPlan}
use Rattle.osn_register_text.specs.Differences.{all_edits}
use Rattle.osn_register_text.proofs.TargetTerritories.{AllPlaced}
use Rattle.osn_register_text.proofs.PlanFacts.{placed_all, ordered_all, is_plan}
use Rattle.osn_register_text.proofs.EditTrials.{trial_fault}

module _ (w r : RegisterModel) (sound : IsWellFormed newest_rules w)
    (current : IsWellFormed newest_rules r)
    (named : first_renamed w.territories r.territories ≡ None)
    (es tried : List Edit) (are : es ≡ all_edits w.territories r.territories) (same : tried ≡ es)
  where
    made : AllPlaced newest_rules r.limits w.territories r.territories w.territories
        (all_edits w.territories r.territories)
    made = placed_all w.limits r.limits w.territories r.territories sound.distinct sound.named
        sound.territories current.territories named

    pub planned : AreLawful newest_rules r.limits r.territories tried →
        IsWellFormed newest_rules (record r {
          territories = after_edits newest_rules r.limits r.territories tried;
        }) → IsPlan r.limits w.territories r.territories es
    planned lawful after =
        subst (IsPlan r.limits w.territories r.territories) (sym are)
        (is_plan w.limits r.limits w.territories r.territories sound.territories made
        (ordered_all w.limits r.limits w.territories r.territories sound.named sound.territories
        current.territories named)
        (subst (AreLawful newest_rules r.limits r.territories) (same ∙ are) lawful)
        (subst (λ fs. IsWellFormed newest_rules (record r {
          territories = after_edits newest_rules r.limits r.territories fs;
        })) (same ∙ are) after).territories)

    pub not_planned : (f : PlanFault) → IsTrialFault r.limits r.territories tried f →
        IsFault r.limits w.territories r.territories f
    not_planned f fault =
        trial_fault r.limits w.territories r.territories (all_edits w.territories r.territories)
        named made.needed
        made.limited f (subst (λ fs. IsTrialFault r.limits r.territories fs f) (same ∙ are) fault)
