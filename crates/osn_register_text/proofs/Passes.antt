-- The two passes through the starts of two territories: those that are dropped, and those that are
-- added.
use Rattle.std.proofs.Common.{◌≡◌, ℕ, inl, inr, ◌+◌, ◌≤◌, Bool, cond, true, false, List}
use Rattle.std.proofs.Common.{[], ◌∷◌, ◌++◌, Option, Some, None, is_some, refl, sym, ap}
use Rattle.std.proofs.Common.{◌∙◌, ◌<◌, ◌&&◌, length, arith}
use Rattle.std.proofs.lemmas.Bool.{cases_eq, false≢true, and_parts}
use Rattle.std.specs.List.{flat_map}
use Rattle.std.specs.Option.{option_or}
use Rattle.osn_territory.specs.declared.regime.Regime.{Regime}
use Rattle.osn_territory.specs.Territory.{TerritoryModel, no_start, regime_at}
use Rattle.osn_territory.specs.Changes.{starts_on, with_change, with_altered, without_change}
use Rattle.osn_register_text.specs.Change.{Change}
use Rattle.osn_register_text.specs.Change.Change.{Alter, Drop}
use Rattle.osn_register.specs.Answer.{period_source}
use Rattle.osn_register_text.specs.CitedSources.{BothSources, same_period}
use Rattle.osn_register_text.specs.Differences.{is_same, start_agrees, dropped_change}
use Rattle.osn_register_text.specs.Differences.{altered_change}
use Rattle.osn_register_text.specs.Differences.{added_change, target_change}
use Rattle.osn_register_text.proofs.Rows.{look, IsFrom, look_here, look_there, look_below, some_is}
use Rattle.osn_register_text.proofs.ChangeFacts.{started, started_apart, altered, altered_apart}
use Rattle.osn_register_text.proofs.ChangeFacts.{dropped}
use Rattle.osn_register_text.proofs.ChangeFacts.{dropped_apart, starts_found, found_in_force}
use Rattle.osn_register_text.proofs.ChangeFacts.{started_from, altered_from, dropped_from}
use Rattle.osn_register_text.proofs.ChangeFacts.{length-started}
use Rattle.osn_register_text.proofs.Rows.{IsWithin, within_one, has_room}
use Rattle.osn_register_text.proofs.Regimes.{same_regime, regime_itself}
use Rattle.osn_register_text.proofs.NeededChanges.{after, AreDue}

none_is : {X : Type 0} (o : Option X) → is_some o ≡ false → o ≡ None
none_is None h = refl
none_is (Some x) h = absurd (false≢true (sym h))

-- if not both hold and the first does, the second does not
pub and_second : (a b : Bool) → a ≡ true → (a && b) ≡ false → b ≡ false
and_second true b holds h = h
and_second false b holds h = absurd (false≢true holds)

-- what is found of a key after the drops among these rows: nothing if a row is dropped
abbrev pub kept : {V : Type 0} → Option V → Bool → Option V → Option V
kept None stays now = now
kept (Some v) stays now = cond stays now None

-- the drops of changes

pub record Drops (both : BothSources) (w t : TerritoryModel) (ss : List (ℕ × Regime))
    (es : List Change) : Type 0 where
  pub due : AreDue both w t es
  pub years : (after es t).exceptions ≡ t.exceptions
  pub from : IsFrom 0 (after es t).starts
  pub found : (k : ℕ) → look k (after es t).starts
      ≡ kept (look k ss) (starts_on w k) (look k t.starts)

pub drops : (both : BothSources) (w t : TerritoryModel) (n : ℕ) (ss : List (ℕ × Regime)) →
    IsFrom 0 t.starts → IsFrom n ss →
    ((k : ℕ) → n ≤ k → look k t.starts ≡ look k ss) →
    Drops both w t ss (flat_map (λ s. dropped_change w s.0) ss)
drops both w t n [] up from same = record { due = tt; years = refl; from = up; found = λ k. refl }
drops both w t n (s ∷ ss) up from same =
    by (starts_on w s.0) refl (λ u still rest. drops both w u (s.0 + 1) ss still from.1 rest)
  where
    later : (k : ℕ) → s.0 + 1 ≤ k → look k (s ∷ ss) ≡ look k ss
    later k high = look_there k s ss (λ e. omega (arith, e, high))

    by : (b : Bool) → starts_on w s.0 ≡ b → ((u : TerritoryModel) → IsFrom 0 u.starts →
        ((k : ℕ) → s.0 + 1 ≤ k → look k u.starts ≡ look k ss) →
        Drops both w u ss (flat_map (λ s. dropped_change w s.0) ss)) → Drops both w t (s ∷ ss)
        (cond b [] (Drop s.0 ∷ []) ++ flat_map (λ s. dropped_change w s.0) ss)
    by true on next =
        let rest = next t up
        (λ k high. same k (omega (arith, from.0)) ∙ later k high) in
        record {
          due = rest.due;
          years = rest.years;
          from = rest.from;
          found = λ k. elim (cases_eq k s.0) [
            | inl e ↦ rest.found k
                ∙ ap (λ o. kept o (starts_on w k) (look k t.starts))
                (look_below k (s.0 + 1) ss (omega arith) from.1)
                ∙ sym (ap (λ b. kept (Some s.1) b (look k t.starts)) (ap (starts_on w) e ∙ on))
                ∙ sym (ap (λ o. kept o (starts_on w k) (look k t.starts)) (look_here k s ss e))
            | inr apart ↦ rest.found k
                ∙ sym (ap (λ o. kept o (starts_on w k) (look k t.starts)) (look_there k s ss apart))
          ];
        }
    by false off next =
        let u = without_change t s.0 in
        let rest = next u (dropped_from 0 s.0 t.starts up)
        (λ k high. dropped_apart k s.0 t.starts (λ e. omega (arith, e, high))
        ∙ same k (omega (arith, from.0)) ∙ later k high) in
        record {
          due = (
            (
              ap is_some (same s.0 from.0 ∙ look_here s.0 s ss refl),
              none_is (look s.0 w.starts) (sym (starts_found s.0 w.starts) ∙ off),
            ),
            rest.due,
          );
          years = rest.years;
          from = rest.from;
          found = λ k. elim (cases_eq k s.0) [
            | inl e ↦ rest.found k
                ∙ ap (λ o. kept o (starts_on w k) (look k u.starts))
                (look_below k (s.0 + 1) ss (omega arith) from.1)
                ∙ ap (λ d. look d u.starts) e ∙ dropped s.0 t.starts
                ∙ sym (ap (λ b. kept (Some s.1) b (look k t.starts)) (ap (starts_on w) e ∙ off))
                ∙ sym (ap (λ o. kept o (starts_on w k) (look k t.starts)) (look_here k s ss e))
            | inr apart ↦ rest.found k
                ∙ ap (kept (look k ss) (starts_on w k)) (dropped_apart k s.0 t.starts apart)
                ∙ sym (ap (λ o. kept o (starts_on w k) (look k t.starts)) (look_there k s ss apart))
          ];
        }

-- the target starts

pub record Starts (both : BothSources) (w t : TerritoryModel) (ss : List (ℕ × Regime))
    (es : List Change) : Type 0 where
  pub due : AreDue both w t es
  pub years : (after es t).exceptions ≡ t.exceptions
  pub found : (k : ℕ) → look k (after es t).starts ≡ option_or (look k ss) (look k t.starts)

-- one start more, after which all others are found as before
more : (both : BothSources) (w t u : TerritoryModel) (s : ℕ × Regime) (ss : List (ℕ × Regime))
    (es : List Change) → IsFrom (s.0 + 1) ss → look s.0 u.starts ≡ Some s.1 →
    ((k : ℕ) → (k ≡ s.0 → ⊥) → look k u.starts ≡ look k t.starts) → Starts both w u ss es →
    (k : ℕ) → look k (after es u).starts ≡ option_or (look k (s ∷ ss)) (look k t.starts)
more both w t u s ss es from here there rest k = elim (cases_eq k s.0) [
  | inl e ↦ rest.found k
      ∙ ap (λ o. option_or o (look k u.starts)) (look_below k (s.0 + 1) ss (omega arith) from)
      ∙ ap (λ d. look d u.starts) e ∙ here
      ∙ sym (ap (λ o. option_or o (look k t.starts)) (look_here k s ss e))
  | inr apart ↦ rest.found k
      ∙ ap (option_or (look k ss)) (there k apart)
      ∙ sym (ap (λ o. option_or o (look k t.starts)) (look_there k s ss apart))
]

-- what is left, from a key on
abbrev Later : BothSources → TerritoryModel → TerritoryModel → ℕ → List (ℕ × Regime) → Type 0
Later both w s0 n ss = (u : TerritoryModel) → IsWithin u.starts w.starts →
    ((k : ℕ) → n ≤ k → look k ss ≡ look k w.starts) →
    ((k : ℕ) → n ≤ k → is_some (look k ss) ≡ true → look k u.starts ≡ look k s0.starts) →
    Starts both w u ss (flat_map (target_change both s0) ss)

pub starts : (both : BothSources) (w s0 t : TerritoryModel) (n : ℕ) (ss : List (ℕ × Regime)) →
    IsFrom 0 s0.starts →
    IsFrom n ss → ((k : ℕ) → n ≤ k → look k ss ≡ look k w.starts) →
    ((k : ℕ) → n ≤ k → is_some (look k ss) ≡ true → look k t.starts ≡ look k s0.starts) →
    IsWithin t.starts w.starts → Starts both w t ss (flat_map (target_change both s0) ss)
starts both w s0 t n [] up from target same within =
    record { due = tt; years = refl; found = λ k. refl }
starts both w s0 t n (s ∷ ss) up from target same within = by (starts_on s0 s.0) refl
    (λ u still rest here. starts both w s0 u (s.0 + 1) ss up from.1 rest here still)
  where
    later : (k : ℕ) → s.0 + 1 ≤ k → look k (s ∷ ss) ≡ look k ss
    later k high = look_there k s ss (λ e. omega (arith, e, high))

    here : look s.0 (s ∷ ss) ≡ Some s.1
    here = look_here s.0 s ss refl

    now : look s.0 t.starts ≡ look s.0 s0.starts
    now = same s.0 from.0 (ap is_some here)

    has : is_some (look s.0 w.starts) ≡ true
    has = ap is_some (sym (target s.0 from.0) ∙ here)

    rest_of : (u : TerritoryModel) → Later both w s0 (s.0 + 1) ss → IsWithin u.starts w.starts →
        ((k : ℕ) → (k ≡ s.0 → ⊥) → look k u.starts ≡ look k t.starts) →
        Starts both w u ss (flat_map (target_change both s0) ss)
    rest_of u next still there = next u still
        (λ k high. sym (later k high) ∙ target k (omega (arith, from.0, high)))
        (λ k high some. there k (λ e. omega (arith, e, high))
        ∙ same k (omega (arith, from.0, high)) (ap is_some (later k high) ∙ some))

    stands : (o : Option Regime) → Later both w s0 (s.0 + 1) ss → look s.0 s0.starts ≡ o →
        is_some o ≡ true → (c : Bool) → start_agrees both (regime_at s0 s.0) s ≡ c →
        Starts both w t (s ∷ ss)
        (cond c [] (Alter s.0 s.1 (period_source both.target s.0) ∷ [])
        ++ flat_map (target_change both s0) ss)
    stands None next is some c eq = absurd (false≢true some)
    stands (Some r) next is some true eq =
        let r_is : r ≡ s.1 = sym (found_in_force s.0 0 no_start r s0.starts up is)
        ∙ same_regime (regime_at s0 s.0) s.1
        (and_parts (is_same (regime_at s0 s.0) s.1) (same_period both s.0) eq).0 in
        let rest = rest_of t next within (λ k apart. refl) in
        record {
          due = rest.due;
          years = rest.years;
          found = more both w t t s ss (flat_map (target_change both s0) ss) from.1
              (now ∙ is ∙ ap (λ q. Some q) r_is) (λ k apart. refl) rest;
        }
    stands (Some r) next is some false eq =
        let u = with_altered t s.0 s.1 in
        let some_now : is_some (look s.0 t.starts) ≡ true = ap is_some (now ∙ is) in
        let still : IsWithin u.starts w.starts =
        within_one t.starts u.starts w.starts s.0 within
        (altered_from 0 s.0 s.1 t.starts within.from) has
        (λ k apart. altered_apart k s.0 s.1 t.starts apart) in
        let rest = rest_of u next still (λ k apart. altered_apart k s.0 s.1 t.starts apart) in
        record {
          due = (
            (
              some_now,
              (λ h. and_second (is_same (regime_at s0 s.0) s.1) (same_period both s.0)
                  (ap (λ q. is_same q s.1) (found_in_force s.0 0 no_start r s0.starts up is
                  ∙ some_is (sym (now ∙ is) ∙ h)) ∙ regime_itself s.1) eq),
              sym (target s.0 from.0) ∙ here,
              refl,
            ),
            rest.due,
          );
          years = rest.years;
          found = more both w t u s ss (flat_map (target_change both s0) ss) from.1
              (altered s.0 s.1 t.starts some_now)
              (λ k apart. altered_apart k s.0 s.1 t.starts apart) rest;
        }

    by : (b : Bool) → starts_on s0 s.0 ≡ b → Later both w s0 (s.0 + 1) ss → Starts both w t (s ∷ ss)
        (cond b (altered_change both (regime_at s0 s.0) s) (added_change both.target s)
        ++ flat_map (target_change both s0) ss)
    by true on next = stands (look s.0 s0.starts) next refl (sym (starts_found s.0 s0.starts) ∙ on)
        (start_agrees both (regime_at s0 s.0) s) refl
    by false off next =
        let u = with_change t s.0 s.1 in
        let none : look s.0 t.starts ≡ None =
        now ∙ none_is (look s.0 s0.starts) (sym (starts_found s.0 s0.starts) ∙ off) in
        let grown : IsWithin u.starts w.starts =
        within_one t.starts u.starts w.starts s.0 within
        (started_from 0 s.0 s.1 t.starts (omega arith) none within.from) has
        (λ k apart. started_apart k s.0 s.1 t.starts apart) in
        let rest = rest_of u next grown (λ k apart. started_apart k s.0 s.1 t.starts apart) in
        let room : length t.starts < length w.starts =
        has_room t.starts u.starts w.starts grown (length-started s.0 s.1 t.starts) in
        record {
          due = ((none, sym (target s.0 from.0) ∙ here, room, refl), rest.due);
          years = rest.years;
          found = more both w t u s ss (flat_map (target_change both s0) ss) from.1
              (started s.0 s.1 t.starts none)
              (λ k apart. started_apart k s.0 s.1 t.starts apart) rest;
        }
