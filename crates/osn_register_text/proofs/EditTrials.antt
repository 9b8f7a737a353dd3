-- Edits that are tried on a copy of a register, one after another.
use Rattle.std.proofs.Common.{◌≡◌, ℕ, ◌+◌, ◌<◌, List, [], ◌∷◌, ◌++◌, length, get_or, take, drop}
use Rattle.std.proofs.Common.{None, sym, ap, subst, ◌∙◌, append_assoc}
use Rattle.std.proofs.lemmas.List.{drop_more, take_more, take-append-drop}
use Rattle.osn_days.specs.Rules.{newest_rules}
use Rattle.osn_register.specs.declared.limits.Limits.{Limits}
use Rattle.osn_register.specs.declared.edit.Edit.{Edit}
use Rattle.osn_register.specs.Lawful.{AreLawful}
use Rattle.osn_register.specs.Plain.{EntryModel, entry_of, refusal, effect, after_edit, after_edits}
use Rattle.osn_register_text.proofs.Lawful.{after_edits-append, after_edit-lawful, AreLawful-push}
use Rattle.osn_register_text.specs.declared.plan_fault.PlanFault.{PlanFault}
use Rattle.osn_register_text.specs.declared.plan_fault.PlanFault.TheVariants.{Renamed, Refused}
use Rattle.osn_register_text.specs.declared.plan_fault.PlanFault.TheVariants.{NoMemory}
use Rattle.osn_register_text.specs.NeededEdits.{AreNeeded}
use Rattle.osn_register_text.specs.Fault.{first_renamed, IsEditFault, IsTrialFault, IsFault, IsOver}
use Rattle.osn_register_text.proofs.Valid.{AreLimited}
use Rattle.osn_register_text.proofs.PlanFacts.{AreNeeded-front, limit_at}

-- the draft has taken the first edits, which are lawful
pub record HasTaken (limits : Limits) (territories : List EntryModel) (edits : List Edit)
    (room : Limits) (draft : List EntryModel) : Type 0 where
  pub room_is : room ≡ limits
  pub draft_is : draft ≡ after_edits newest_rules limits territories edits
  pub lawful : AreLawful newest_rules limits territories edits

module _ (limits : Limits) (territories : List EntryModel) (es : List Edit) (room : Limits)
    (draft : List EntryModel) (i : ℕ) (e : Edit) (within : i < length es) (is : e ≡ get_or es i e)
    (taken : HasTaken limits territories (take i es) room draft) where
  more : take (i + 1) es ≡ take i es ++ e ∷ []
  more = take_more es i e within ∙ ap (λ x. take i es ++ x ∷ []) (sym is)

  -- and takes one more
  pub taken_more : refusal newest_rules room draft e ≡ None →
      HasTaken limits territories (take (i + 1) es) room (effect draft e)
  taken_more none = record {
    room_is = taken.room_is;
    draft_is = sym (after_edit-lawful newest_rules room draft e none)
        ∙ ap (λ m. after_edit newest_rules m draft e) taken.room_is
        ∙ ap (λ ls. after_edit newest_rules limits ls e) taken.draft_is
        ∙ sym (after_edits-append newest_rules limits territories (take i es) (e ∷ []))
        ∙ ap (after_edits newest_rules limits territories) (sym more);
    lawful = subst (AreLawful newest_rules limits territories) (sym more)
        (AreLawful-push newest_rules limits territories (take i es) e taken.lawful
        (ap (λ m. refusal newest_rules m (after_edits newest_rules limits territories (take i es))
        e) (sym taken.room_is)
        ∙ ap (λ ls. refusal newest_rules room ls e) (sym taken.draft_is) ∙ none));
  }

  -- a draft refuses the next edit of a plan
  pub not_taken : (f : PlanFault) → IsEditFault room draft e f →
      IsTrialFault limits territories es f
  not_taken (Renamed code current name) fault = fault
  not_taken (Refused code reason) fault = record {
    before = take i es;
    edit = e;
    after = drop (i + 1) es;
    among = sym (take-append-drop i es)
        ∙ ap (λ r. take i es ++ r) (drop_more es i e within
        ∙ ap (λ x. x ∷ drop (i + 1) es) (sym is));
    lawful = taken.lawful;
    has_code = fault.0;
    refused = ap (λ m. refusal newest_rules m
        (after_edits newest_rules limits territories (take i es)) e) (sym taken.room_is)
        ∙ ap (λ ls. refusal newest_rules room ls e) (sym taken.draft_is) ∙ fault.1;
  }
  not_taken NoMemory fault = fault

-- one of edits that are needed is refused
pub trial_fault : (limits : Limits) (target territories : List EntryModel) (es : List Edit) →
    first_renamed target territories ≡ None → AreNeeded target territories es →
    AreLimited newest_rules limits target territories es → (f : PlanFault) →
    IsTrialFault limits territories es f → IsFault limits target territories f
trial_fault limits target territories es named needed limited (Renamed code current name) fault =
    absurd fault
trial_fault limits target territories es named needed limited (Refused code reason) fault = (
  named,
  record {
    before = fault.before;
    edit = fault.edit;
    lawful = fault.lawful;
    needed = AreNeeded-front target territories (fault.before ++ fault.edit ∷ []) fault.after
        (subst (AreNeeded target territories)
        (fault.among ∙ sym (append_assoc fault.before (fault.edit ∷ []) fault.after)) needed);
    has_code = fault.has_code;
    refused = fault.refused;
    over = subst (λ c. IsOver limits (entry_of c target) reason) fault.has_code
        (limit_at limits target territories fault.before fault.edit fault.after reason fault.lawful
        (subst (AreLimited newest_rules limits target territories) fault.among limited)
        fault.refused);
  },
)
trial_fault limits target territories es named needed limited NoMemory fault = fault
