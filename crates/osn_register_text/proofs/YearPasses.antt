-- The two passes through the listed Easters of two territories: those that are dropped, and those
-- wanted.
use Rattle.std.proofs.Common.{◌≡◌, ℕ, inl, inr, ◌+◌, ◌≤◌, Bool, cond, true, false, List}
use Rattle.std.proofs.Common.{[], ◌∷◌, ◌++◌, Option, Some, None, is_some, refl, sym, ap}
use Rattle.std.proofs.Common.{◌∙◌, ◌<◌, ◌&&◌, length, arith}
use Rattle.std.proofs.lemmas.Bool.{eq-eqb, cases_eq}
use Rattle.std.specs.List.{flat_map}
use Rattle.std.specs.Option.{option_or}
use Rattle.osn_territory.specs.Territory.{TerritoryModel}
use Rattle.osn_territory.specs.Exceptions.{with_exception, without_exception}
use Rattle.osn_register_text.specs.Change.{Change}
use Rattle.osn_register_text.specs.Change.Change.{DropDay}
use Rattle.osn_register_text.specs.CitedSources.{BothSources, same_easter}
use Rattle.osn_register_text.specs.Differences.{is_day, lists, day_agrees, dropped_exception}
use Rattle.osn_register_text.specs.Differences.{added_exception, target_exception}
use Rattle.osn_register_text.proofs.Rows.{look, IsFrom, look_here, look_there, look_below}
use Rattle.osn_register_text.proofs.ChangeFacts.{listed}
use Rattle.osn_register_text.proofs.ChangeFacts.{listed_apart, removed, removed_apart, removed_from}
use Rattle.osn_register_text.proofs.ChangeFacts.{listed_from}
use Rattle.osn_register_text.proofs.ChangeFacts.{length-listed}
use Rattle.osn_register_text.proofs.Rows.{IsWithin, within_one, has_room}
use Rattle.osn_register_text.proofs.NeededChanges.{after, AreDue}
use Rattle.osn_register_text.proofs.Passes.{and_second}

-- the drops of listed days

-- what is found of a year after the drops among these rows, whether its sources are one or not
abbrev pub kept_day : Bool → Option ℕ → Option ℕ → Option ℕ → Option ℕ
kept_day same None target now = now
kept_day same (Some d) target now = cond (is_day d target && same) now None

pub record YearDrops (both : BothSources) (w t : TerritoryModel) (ys : List (ℕ × ℕ))
    (es : List Change) : Type 0 where
  pub due : AreDue both w t es
  pub starts : (after es t).starts ≡ t.starts
  pub from : IsFrom 0 (after es t).exceptions
  pub found : (k : ℕ) → look k (after es t).exceptions
      ≡ kept_day (same_easter both k) (look k ys) (look k w.exceptions) (look k t.exceptions)

pub year_drops : (both : BothSources) (w t : TerritoryModel) (n : ℕ) (ys : List (ℕ × ℕ)) →
    IsFrom 0 t.exceptions → IsFrom n ys → ((k : ℕ) → n ≤ k → look k t.exceptions ≡ look k ys) →
    YearDrops both w t ys (flat_map (dropped_exception both w) ys)
year_drops both w t n [] up from same =
    record { due = tt; starts = refl; from = up; found = λ k. refl }
year_drops both w t n (y ∷ ys) up from same =
    by (day_agrees both w y) refl
    (λ u still rest. year_drops both w u (y.0 + 1) ys still from.1 rest)
  where
    later : (k : ℕ) → y.0 + 1 ≤ k → look k (y ∷ ys) ≡ look k ys
    later k high = look_there k y ys (λ e. omega (arith, e, high))

    now : look y.0 t.exceptions ≡ Some y.1
    now = same y.0 from.0 ∙ look_here y.0 y ys refl

    target_at : (k : ℕ) → k ≡ y.0 →
        (is_day y.1 (look k w.exceptions) && same_easter both k) ≡ day_agrees both w y
    target_at k e = ap (λ d. is_day y.1 (look d w.exceptions) && same_easter both d) e

    by : (b : Bool) → day_agrees both w y ≡ b → ((u : TerritoryModel) → IsFrom 0 u.exceptions →
        ((k : ℕ) → y.0 + 1 ≤ k → look k u.exceptions ≡ look k ys) →
        YearDrops both w u ys (flat_map (dropped_exception both w) ys)) →
        YearDrops both w t (y ∷ ys)
        (cond b [] (DropDay y.0 ∷ []) ++ flat_map (dropped_exception both w) ys)
    by true on next =
        let rest = next t up
        (λ k high. same k (omega (arith, from.0, high)) ∙ later k high) in
        record {
          due = rest.due;
          starts = rest.starts;
          from = rest.from;
          found = λ k. elim (cases_eq k y.0) [
            | inl e ↦ rest.found k
                ∙ ap (λ o. kept_day (same_easter both k) o (look k w.exceptions)
                (look k t.exceptions))
                (look_below k (y.0 + 1) ys (omega arith) from.1)
                ∙ sym (ap (λ b. cond b (look k t.exceptions) None) (target_at k e ∙ on))
                ∙ sym (ap (λ o. kept_day (same_easter both k) o (look k w.exceptions)
                (look k t.exceptions))
                (look_here k y ys e))
            | inr apart ↦ rest.found k
                ∙ sym (ap (λ o. kept_day (same_easter both k) o (look k w.exceptions)
                (look k t.exceptions))
                (look_there k y ys apart))
          ];
        }
    by false off next =
        let u = without_exception t y.0 in
        let rest = next u (removed_from 0 y.0 t.exceptions up)
        (λ k high. removed_apart k y.0 t.exceptions (λ e. omega (arith, e, high))
        ∙ same k (omega (arith, from.0, high)) ∙ later k high) in
        record {
          due = (
            (
              ap is_some now,
              (λ h. and_second (lists w y) (same_easter both y.0)
                  (ap (is_day y.1) (h ∙ now) ∙ eq-eqb y.1 y.1 refl) off),
            ),
            rest.due,
          );
          starts = rest.starts;
          from = rest.from;
          found = λ k. elim (cases_eq k y.0) [
            | inl e ↦ rest.found k
                ∙ ap (λ o. kept_day (same_easter both k) o (look k w.exceptions)
                (look k u.exceptions))
                (look_below k (y.0 + 1) ys (omega arith) from.1)
                ∙ ap (λ d. look d u.exceptions) e ∙ removed 0 y.0 t.exceptions up
                ∙ sym (ap (λ b. cond b (look k t.exceptions) None) (target_at k e ∙ off))
                ∙ sym (ap (λ o. kept_day (same_easter both k) o (look k w.exceptions)
                (look k t.exceptions))
                (look_here k y ys e))
            | inr apart ↦ rest.found k
                ∙ ap (kept_day (same_easter both k) (look k ys) (look k w.exceptions))
                (removed_apart k y.0 t.exceptions apart)
                ∙ sym (ap (λ o. kept_day (same_easter both k) o (look k w.exceptions)
                (look k t.exceptions))
                (look_there k y ys apart))
          ];
        }

-- the target days

pub record Years (both : BothSources) (w t : TerritoryModel) (ys : List (ℕ × ℕ))
    (es : List Change) : Type 0 where
  pub due : AreDue both w t es
  pub starts : (after es t).starts ≡ t.starts
  pub found : (k : ℕ) → look k (after es t).exceptions
      ≡ option_or (look k ys) (look k t.exceptions)

year_more : (both : BothSources) (w t u : TerritoryModel) (y : ℕ × ℕ) (ys : List (ℕ × ℕ))
    (es : List Change) →
    IsFrom (y.0 + 1) ys → look y.0 u.exceptions ≡ Some y.1 →
    ((k : ℕ) → (k ≡ y.0 → ⊥) → look k u.exceptions ≡ look k t.exceptions) → Years both w u ys es →
    (k : ℕ) → look k (after es u).exceptions ≡ option_or (look k (y ∷ ys)) (look k t.exceptions)
year_more both w t u y ys es from here there rest k = elim (cases_eq k y.0) [
  | inl e ↦ rest.found k
      ∙ ap (λ o. option_or o (look k u.exceptions)) (look_below k (y.0 + 1) ys (omega arith) from)
      ∙ ap (λ d. look d u.exceptions) e ∙ here
      ∙ sym (ap (λ o. option_or o (look k t.exceptions)) (look_here k y ys e))
  | inr apart ↦ rest.found k
      ∙ ap (option_or (look k ys)) (there k apart)
      ∙ sym (ap (λ o. option_or o (look k t.exceptions)) (look_there k y ys apart))
]

abbrev LaterYears : BothSources → TerritoryModel → TerritoryModel → ℕ → List (ℕ × ℕ) → Type 0
LaterYears both w s0 n ys = (u : TerritoryModel) → IsWithin u.exceptions w.exceptions →
    ((k : ℕ) → n ≤ k → look k ys ≡ look k w.exceptions) →
    ((k d : ℕ) → n ≤ k → look k ys ≡ Some d →
    look k u.exceptions
    ≡ cond (is_day d (look k s0.exceptions) && same_easter both k) (Some d) None) →
    Years both w u ys (flat_map (target_exception both s0) ys)

pub years : (both : BothSources) (w s0 t : TerritoryModel) (n : ℕ) (ys : List (ℕ × ℕ)) →
    IsFrom n ys →
    ((k : ℕ) → n ≤ k → look k ys ≡ look k w.exceptions) →
    ((k d : ℕ) → n ≤ k → look k ys ≡ Some d →
    look k t.exceptions
    ≡ cond (is_day d (look k s0.exceptions) && same_easter both k) (Some d) None) →
    IsWithin t.exceptions w.exceptions → Years both w t ys (flat_map (target_exception both s0) ys)
years both w s0 t n [] from target same within =
    record { due = tt; starts = refl; found = λ k. refl }
years both w s0 t n (y ∷ ys) from target same within = by (day_agrees both s0 y) refl
    (λ u still rest here. years both w s0 u (y.0 + 1) ys from.1 rest here still)
  where
    later : (k : ℕ) → y.0 + 1 ≤ k → look k (y ∷ ys) ≡ look k ys
    later k high = look_there k y ys (λ e. omega (arith, e, high))

    here : look y.0 (y ∷ ys) ≡ Some y.1
    here = look_here y.0 y ys refl

    now : look y.0 t.exceptions ≡ cond (day_agrees both s0 y) (Some y.1) None
    now = same y.0 y.1 from.0 here

    rest_of : (u : TerritoryModel) → LaterYears both w s0 (y.0 + 1) ys →
        IsWithin u.exceptions w.exceptions →
        ((k : ℕ) → (k ≡ y.0 → ⊥) → look k u.exceptions ≡ look k t.exceptions) →
        Years both w u ys (flat_map (target_exception both s0) ys)
    rest_of u next still there = next u still
        (λ k high. sym (later k high) ∙ target k (omega (arith, from.0, high)))
        (λ k d high found. there k (λ e. omega (arith, e, high))
        ∙ same k d (omega (arith, from.0, high)) (later k high ∙ found))

    by : (b : Bool) → day_agrees both s0 y ≡ b → LaterYears both w s0 (y.0 + 1) ys →
        Years both w t (y ∷ ys)
        (cond b [] (added_exception both.target y) ++ flat_map (target_exception both s0) ys)
    by true on next =
        let rest = rest_of t next within (λ k apart. refl) in
        record {
          due = rest.due;
          starts = rest.starts;
          found = year_more both w t t y ys (flat_map (target_exception both s0) ys) from.1
              (now ∙ ap (λ b. cond b (Some y.1) None) on) (λ k apart. refl) rest;
        }
    by false off next =
        let u = with_exception t y.0 y.1 in
        let none : look y.0 t.exceptions ≡ None = now ∙ ap (λ b. cond b (Some y.1) None) off in
        let grown : IsWithin u.exceptions w.exceptions =
        within_one t.exceptions u.exceptions w.exceptions y.0 within
        (listed_from 0 y.0 y.1 t.exceptions (omega arith) none within.from)
        (ap is_some (sym (target y.0 from.0) ∙ here))
        (λ k apart. listed_apart k y.0 y.1 t.exceptions apart) in
        let rest = rest_of u next grown (λ k apart. listed_apart k y.0 y.1 t.exceptions apart) in
        let room : length t.exceptions < length w.exceptions =
        has_room t.exceptions u.exceptions w.exceptions grown
        (length-listed y.0 y.1 t.exceptions none) in
        record {
          due = ((none, sym (target y.0 from.0) ∙ here, room, refl), rest.due);
          starts = rest.starts;
          found = year_more both w t u y ys (flat_map (target_exception both s0) ys) from.1
              (listed y.0 y.1 t.exceptions none)
              (λ k apart. listed_apart k y.0 y.1 t.exceptions apart) rest;
        }
