-- The edits of lists of changes, put together.
use Rattle.std.proofs.Common.{◌≡◌, ℕ, List, [], ◌∷◌, ◌++◌, map, drop, refl, sym, ap, subst, ◌∙◌}
use Rattle.std.proofs.Common.{Option, append_assoc, ◌-◌, length, take, Ok, Err}
use Rattle.std.specs.declared.result.Result.{Result}
use Rattle.std.specs.Result.{OnOk, IfErr, IsErrAnd}
use Rattle.std.proofs.lemmas.Result.{err_from_is_err_and}
use Rattle.std.proofs.lemmas.List.{map-append, take_rest}
use Rattle.std.specs.List.{flat_map}
use Rattle.osn_days.specs.Rules.{newest_rules}
use Rattle.osn_territory.specs.declared.regime.Regime.{Regime}
use Rattle.osn_territory.specs.declared.period.Period.{Period}
use Rattle.osn_territory.specs.Territory.{TerritoryModel, periods_from, periods_of}
use Rattle.osn_register.specs.declared.edit.Edit.{Edit}
use Rattle.osn_register.specs.Plain.{EntryModel}
use Rattle.osn_register.specs.Sources.{SourcesModel}
use Rattle.osn_register_text.specs.CitedSources.{BothSources}
use Rattle.osn_register_text.specs.Change.{edit_of}
use Rattle.osn_register_text.specs.Differences.{dropped_change, added_change, target_change, later}
use Rattle.osn_register_text.specs.Differences.{dropped_exception, added_exception}
use Rattle.osn_register_text.specs.Differences.{target_exception}
use Rattle.osn_register_text.specs.Differences.{differences, entry_edits}

module _ {A B : Type 0} (f : A → B) where
  pub periods_mapped : (g : ℕ × Regime → List A) (high : ℕ) (ss : List (ℕ × Regime)) →
      flat_map (λ (p : Period). map f (g (p.first, p.regime))) (periods_from high ss)
      ≡ map f (flat_map g ss)
  periods_mapped g high [] = refl
  periods_mapped g high (s ∷ ss) =
      ap (λ es. map f (g s) ++ es) (periods_mapped g high ss)
      ∙ sym (map-append f (g s) (flat_map g ss))

  pub rows_mapped : {X : Type 0} (g : X → List A) (xs : List X) →
      flat_map (λ x. map f (g x)) xs ≡ map f (flat_map g xs)
  rows_mapped g [] = refl
  rows_mapped g (x ∷ xs) =
      ap (λ es. map f (g x) ++ es) (rows_mapped g xs) ∙ sym (map-append f (g x) (flat_map g xs))

pub later_periods : (high : ℕ) (ss : List (ℕ × Regime)) →
    drop 1 (periods_from high ss) ≡ periods_from high (drop 1 ss)
later_periods high [] = refl
later_periods high (s ∷ ss) = refl

-- the edits of the differences, as they are appended pass by pass
pub differences_mapped : (code : List ℕ) (both : BothSources) (t w : TerritoryModel)
    (ps qs : List Period) →
    ps ≡ periods_of newest_rules t → qs ≡ periods_of newest_rules w →
    flat_map (λ (p : Period). map (edit_of code) (dropped_change w p.first)) ps
    ++ (flat_map (λ (p : Period). map (edit_of code) (target_change both t (p.first, p.regime))) qs
    ++ (flat_map (λ e. map (edit_of code) (dropped_exception both w e)) t.exceptions
    ++ flat_map (λ e. map (edit_of code) (target_exception both t e)) w.exceptions))
    ≡ map (edit_of code) (differences both t w)
differences_mapped code both t w ps qs is are =
    let f = edit_of code in
    let high = newest_rules.high in
    let a = flat_map (λ (s : ℕ × Regime). dropped_change w s.0) t.starts in
    let b = flat_map (target_change both t) w.starts in
    let c = flat_map (dropped_exception both w) t.exceptions in
    let d = flat_map (target_exception both t) w.exceptions in
    let first : flat_map (λ (p : Period). map f (dropped_change w p.first)) ps ≡ map f a =
    ap (flat_map (λ (p : Period). map f (dropped_change w p.first))) is
    ∙ periods_mapped f (λ s. dropped_change w s.0) high t.starts in
    let second : flat_map (λ (p : Period). map f (target_change both t (p.first, p.regime))) qs
    ≡ map f b =
    ap (flat_map (λ (p : Period). map f (target_change both t (p.first, p.regime)))) are
    ∙ periods_mapped f (target_change both t) high w.starts in
    let third : flat_map (λ e. map f (dropped_exception both w e)) t.exceptions ≡ map f c =
    rows_mapped f (dropped_exception both w) t.exceptions in
    let fourth : flat_map (λ e. map f (target_exception both t e)) w.exceptions ≡ map f d =
    rows_mapped f (target_exception both t) w.exceptions in
    ap (λ es. es ++ (flat_map (λ (p : Period). map f (target_change both t (p.first, p.regime))) qs
    ++ (flat_map (λ e. map f (dropped_exception both w e)) t.exceptions
    ++ flat_map (λ e. map f (target_exception both t e)) w.exceptions))) first
    ∙ ap (λ es. map f a ++ (es ++ (flat_map (λ e. map f (dropped_exception both w e)) t.exceptions
    ++ flat_map (λ e. map f (target_exception both t e)) w.exceptions))) second
    ∙ ap (λ es. map f a ++ (map f b ++ (es
    ++ flat_map (λ e. map f (target_exception both t e)) w.exceptions))) third
    ∙ ap (λ es. map f a ++ (map f b ++ (map f c ++ es))) fourth
    ∙ ap (λ es. map f a ++ (map f b ++ es)) (sym (map-append f c d))
    ∙ ap (λ es. map f a ++ es) (sym (map-append f b (c ++ d)))
    ∙ sym (map-append f a (b ++ (c ++ d)))

-- the edits of the later starts and days of a territory, as they are appended
pub later_mapped : (code : List ℕ) (cited : Option SourcesModel) (w : TerritoryModel)
    (ps : List Period) →
    ps ≡ periods_of newest_rules w →
    flat_map (λ (p : Period). map (edit_of code) (added_change cited (p.first, p.regime)))
    (take (length ps - 1) (drop 1 ps))
    ++ flat_map (λ e. map (edit_of code) (added_exception cited e)) w.exceptions
    ≡ map (edit_of code) (later cited w)
later_mapped code cited w ps is =
    let f = edit_of code in
    let a = flat_map (added_change cited) (drop 1 w.starts) in
    let b = flat_map (added_exception cited) w.exceptions in
    let adds : List Period → List Edit =
    flat_map (λ (p : Period). map f (added_change cited (p.first, p.regime))) in
    ap (λ qs. adds qs ++ flat_map (λ e. map f (added_exception cited e)) w.exceptions)
    (take_rest ps 1)
    ∙ ap (λ qs. adds (drop 1 qs) ++ flat_map (λ e. map f (added_exception cited e)) w.exceptions) is
    ∙ ap (λ qs. adds qs ++ flat_map (λ e. map f (added_exception cited e)) w.exceptions)
    (later_periods newest_rules.high w.starts)
    ∙ ap (λ es. es ++ flat_map (λ e. map f (added_exception cited e)) w.exceptions)
    (periods_mapped f (added_change cited) newest_rules.high (drop 1 w.starts))
    ∙ ap (λ es. map f a ++ es) (rows_mapped f (added_exception cited) w.exceptions)
    ∙ sym (map-append f a b)

-- the edits of a territory by what it is listed as
pub same_entry_edits : (target territories : List EntryModel) (l : EntryModel) (code name : List ℕ)
    (t : TerritoryModel) → l.code ≡ code → l.name ≡ name → l.territory ≡ t →
    entry_edits target territories l.code l.name l.territory
    ≡ entry_edits target territories code name t
same_entry_edits target territories l code name t code_is name_is territory_is =
    ap (λ (c : List ℕ). entry_edits target territories c l.name l.territory) code_is
    ∙ ap (λ (n : List ℕ). entry_edits target territories code n l.territory) name_is
    ∙ ap (λ (u : TerritoryModel). entry_edits target territories code name u) territory_is

module _ {B : Type 0} where
  -- what four steps append
  pub four : (old a b c d after_a after_b after_c after_d : List B) → after_a ≡ old ++ a →
      after_b ≡ after_a ++ b → after_c ≡ after_b ++ c → after_d ≡ after_c ++ d →
      after_d ≡ old ++ (a ++ (b ++ (c ++ d)))
  four old a b c d after_a after_b after_c after_d e f g h =
      h ∙ ap (λ es. es ++ d) (g ∙ ap (λ es. es ++ c) (f ∙ ap (λ es. es ++ b) e))
      ∙ append_assoc ((old ++ a) ++ b) c d ∙ append_assoc (old ++ a) b (c ++ d)
      ∙ append_assoc old a (b ++ (c ++ d))

  pub two : (old a b after_a after_b : List B) → after_a ≡ old ++ a → after_b ≡ after_a ++ b →
      after_b ≡ old ++ (a ++ b)
  two old a b after_a after_b e f =
      f ∙ ap (λ es. es ++ b) e ∙ append_assoc old a b

pub ok_by : {X Y : Type 0} {A C : Type 0} (r : Result X Y) → (A → C) → OnOk r A → OnOk r C
ok_by (Ok x) f a = f a
ok_by (Err y) f a = a

-- an error that is passed on stays the same
pub handed_on : {X E : Type 0} (P : E → Type 0) (r : Result X E) (f : E) → IsErrAnd r (λ y. y ≡ f) →
    P f → IfErr r P
handed_on {X} {E} P r f is holds =
    let err = err_from_is_err_and r is in
    subst (λ (q : Result X E). IfErr q P) (sym err.1) (subst P (sym err.2) holds)
