-- The names of the territories of the target, tested one after another.
use Rattle.std.proofs.Common.{◌≡◌, ℕ, ◌+◌, true, false, cond, not, List, drop, Some}
use Rattle.std.proofs.Common.{None, option_map, sym, ap, ◌∙◌}
use Rattle.std.specs.List.{slice_get}
use Rattle.osn_register.specs.declared.limits.Limits.{Limits}
use Rattle.osn_register.specs.Plain.{EntryModel}
use Rattle.osn_register_text.specs.declared.plan_fault.PlanFault.{PlanFault}
use Rattle.osn_register_text.specs.declared.plan_fault.PlanFault.TheVariants.{Renamed, Refused}
use Rattle.osn_register_text.specs.declared.plan_fault.PlanFault.TheVariants.{NoMemory}
use Rattle.osn_register_text.specs.NeededEdits.{name_in}
use Rattle.osn_register_text.specs.Fault.{has_other_name, first_renamed, IsNameFault, IsFault}
use Rattle.osn_register_text.proofs.Places.{left_from, none_left}

module _ (target territories : List EntryModel) (i : ℕ) where
  pub called_more : (l : EntryModel) → slice_get target i ≡ Some l →
      has_other_name l.name (name_in territories l.code) ≡ false →
      first_renamed target territories ≡ first_renamed (drop i target) territories →
      first_renamed target territories ≡ first_renamed (drop (i + 1) target) territories
  called_more l at named before =
      before ∙ ap (λ ls. first_renamed ls territories) (left_from target i l at)
      ∙ ap (λ b. cond b (Some l) (first_renamed (drop (i + 1) target) territories)) named

  pub called_all : slice_get target i ≡ None →
      first_renamed target territories ≡ first_renamed (drop i target) territories →
      first_renamed target territories ≡ None
  called_all none before = before
      ∙ ap (λ ls. first_renamed ls territories) (none_left target i none)

  found : (l : EntryModel) → slice_get target i ≡ Some l →
      has_other_name l.name (name_in territories l.code) ≡ true →
      first_renamed target territories ≡ first_renamed (drop i target) territories →
      first_renamed target territories ≡ Some l
  found l at renamed before =
      before ∙ ap (λ ls. first_renamed ls territories) (left_from target i l at)
      ∙ ap (λ b. cond b (Some l) (first_renamed (drop (i + 1) target) territories)) renamed

  pub name_fault : (limits : Limits) (l : EntryModel) → slice_get target i ≡ Some l →
      first_renamed target territories ≡ first_renamed (drop i target) territories → (f : PlanFault)
      → IsNameFault territories l.code l.name f → IsFault limits target territories f
  name_fault limits l at before (Renamed code current name) fault =
      let other : has_other_name l.name (name_in territories l.code) ≡ true =
      ap (has_other_name l.name) fault.2 ∙ ap not fault.3 in
      let first = found l at other before in
      record {
        has_code = ap (option_map (λ (k : EntryModel). k.code)) first
            ∙ ap (λ c. Some c) (sym fault.0);
        has_name = ap (option_map (λ (k : EntryModel). k.name)) first
            ∙ ap (λ n. Some n) (sym fault.1);
        stands = ap (name_in territories) fault.0 ∙ fault.2;
      }
  name_fault limits l at before (Refused code reason) fault = absurd fault
  name_fault limits l at before NoMemory fault = fault
