-- Edits that are lawful in turn: what they lead to, and that they are lawful again.
use Rattle.std.proofs.Common.{◌≡◌, ℕ, ◌+◌, ◌<◌, List, [], ◌∷◌, ◌++◌, length, get_or, take, drop}
use Rattle.std.proofs.Common.{None, sym, ap, subst, refl, ◌∙◌}
use Rattle.std.proofs.lemmas.List.{drop_more, take_more, take-append-drop}
use Rattle.osn_days.specs.Rules.{Rules}
use Rattle.osn_register.specs.declared.limits.Limits.{Limits}
use Rattle.osn_register.specs.declared.edit.Edit.{Edit}
use Rattle.osn_register.specs.Lawful.{AreLawful}
use Rattle.osn_register.specs.Plain.{EntryModel, refusal, effect, after_edit, after_edits}
use Rattle.osn_register.specs.Plain.{unless_refused}

pub after_edits-append : (p : Rules) (limits : Limits) (territories : List EntryModel)
    (es fs : List Edit) →
    after_edits p limits territories (es ++ fs)
    ≡ after_edits p limits (after_edits p limits territories es) fs
after_edits-append p limits territories [] fs = refl
after_edits-append p limits territories (e ∷ es) fs = after_edits-append p limits
    (after_edit p limits territories e) es fs

pub after_edit-lawful : (p : Rules) (limits : Limits) (territories : List EntryModel) (e : Edit) →
    refusal p limits territories e ≡ None → after_edit p limits territories e ≡ effect territories e
after_edit-lawful p limits territories e none =
    ap (λ r. unless_refused r (effect territories e) territories) none

pub AreLawful-push : (p : Rules) (limits : Limits) (territories : List EntryModel) (es : List Edit)
    (e : Edit) → AreLawful p limits territories es →
    refusal p limits (after_edits p limits territories es) e ≡
    None → AreLawful p limits territories (es ++ e ∷ [])
AreLawful-push p limits territories [] e lawful none = (none, tt)
AreLawful-push p limits territories (d ∷ es) e lawful none = (
  lawful.0,
  AreLawful-push p limits (effect territories d) es e lawful.1
      (subst (λ ls. refusal p limits (after_edits p limits ls es) e ≡ None)
      (after_edit-lawful p limits territories d lawful.0) none),
)

-- the first of edits that are lawful in turn are lawful in turn
pub AreLawful-front : (p : Rules) (limits : Limits) (territories : List EntryModel)
    (es fs : List Edit) →
    AreLawful p limits territories (es ++ fs) → AreLawful p limits territories es
AreLawful-front p limits territories [] fs lawful = tt
AreLawful-front p limits territories (e ∷ es) fs lawful =
    (lawful.0, AreLawful-front p limits (effect territories e) es fs lawful.1)

-- of edits that are lawful in turn, those after the first ones are lawful once the first ones are
-- applied
pub AreLawful-after : (p : Rules) (limits : Limits) (territories : List EntryModel)
    (es fs : List Edit)
    → AreLawful p limits territories (es ++ fs) →
    AreLawful p limits (after_edits p limits territories es) fs
AreLawful-after p limits territories [] fs lawful = lawful
AreLawful-after p limits territories (e ∷ es) fs lawful =
    AreLawful-after p limits (after_edit p limits territories e) es fs
    (subst (λ ls. AreLawful p limits ls (es ++ fs))
    (sym (after_edit-lawful p limits territories e lawful.0)) lawful.1)

-- the edit at a place is lawful after those before it
pub lawful_at : (p : Rules) (limits : Limits) (territories : List EntryModel) (es : List Edit)
    (i : ℕ) (e : Edit) → i < length es → get_or es i e ≡ e → AreLawful p limits territories es →
    refusal p limits (after_edits p limits territories (take i es)) e ≡ None
lawful_at p limits territories es i e within is lawful =
    let behind = AreLawful-after p limits territories (take i es) (drop i es)
    (subst (AreLawful p limits territories) (sym (take-append-drop i es)) lawful) in
    let left : drop i es ≡ e ∷ drop (i + 1) es =
    drop_more es i e within ∙ ap (λ x. x ∷ drop (i + 1) es) is in
    (subst (AreLawful p limits (after_edits p limits territories (take i es))) left behind).0

-- edits up to the one at a place lead to its effect on what those before it lead to
pub applied_at : (p : Rules) (limits : Limits) (territories : List EntryModel) (es : List Edit)
    (i : ℕ) (e : Edit) → i < length es → get_or es i e ≡ e → AreLawful p limits territories es →
    effect (after_edits p limits territories (take i es)) e
    ≡ after_edits p limits territories (take (i + 1) es)
applied_at p limits territories es i e within is lawful =
    sym (after_edit-lawful p limits (after_edits p limits territories (take i es)) e
    (lawful_at p limits territories es i e within is lawful))
    ∙ sym (after_edits-append p limits territories (take i es) (e ∷ []))
    ∙ ap (after_edits p limits territories)
    (ap (λ x. take i es ++ x ∷ []) (sym is) ∙ sym (take_more es i e within))
