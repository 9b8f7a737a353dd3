-- Edits that are lawful in turn: what they lead to, and one more.
use Rattle.std.proofs.Common.{◌≡◌, List, [], ◌∷◌, ◌++◌, None, ap, subst, refl}
use Rattle.osn_days.specs.Rules.{Rules}
use Rattle.osn_register.specs.declared.limits.Limits.{Limits}
use Rattle.osn_register.specs.declared.edit.Edit.{Edit}
use Rattle.osn_register.specs.Lawful.{AreLawful}
use Rattle.osn_register.specs.Plain.{EntryModel, refusal, effect, after_edit, after_edits}
use Rattle.osn_register.specs.Plain.{unless_refused}

pub after_edits-append : (p : Rules) (limits : Limits) (territories : List EntryModel)
    (es fs : List Edit) →
    after_edits p limits territories (es ++ fs)
    ≡ after_edits p limits (after_edits p limits territories es) fs
after_edits-append p limits territories [] fs = refl
after_edits-append p limits territories (e ∷ es) fs = after_edits-append p limits
    (after_edit p limits territories e) es fs

pub after_edit-lawful : (p : Rules) (limits : Limits) (territories : List EntryModel) (e : Edit) →
    refusal p limits territories e ≡ None → after_edit p limits territories e ≡ effect territories e
after_edit-lawful p limits territories e none =
    ap (λ r. unless_refused r (effect territories e) territories) none

pub AreLawful-push : (p : Rules) (limits : Limits) (territories : List EntryModel) (es : List Edit)
    (e : Edit) → AreLawful p limits territories es →
    refusal p limits (after_edits p limits territories es) e ≡
    None → AreLawful p limits territories (es ++ e ∷ [])
AreLawful-push p limits territories [] e lawful none = (none, tt)
AreLawful-push p limits territories (d ∷ es) e lawful none = (
  lawful.0,
  AreLawful-push p limits (effect territories d) es e lawful.1
      (subst (λ ls. refusal p limits (after_edits p limits ls es) e ≡ None)
      (after_edit-lawful p limits territories d lawful.0) none),
)
