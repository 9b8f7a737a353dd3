-- What a change of a territory leaves to be found on its day or for its year, and on each other.
use Rattle.std.proofs.Common.{◌≡◌, ℕ, inl, inr, ◌+◌, ◌<◌, Bool, cond, true, false, not, ◌==◌}
use Rattle.std.proofs.Common.{◌||◌, nat_lt, nat_le, List, [], ◌∷◌, map, filter, fold, Some}
use Rattle.std.proofs.Common.{None, is_some, refl, sym, ap, ◌∙◌, arith}
use Rattle.std.proofs.lemmas.Bool.{eq-eqb, ne_eqb, le-leb, lt-leb, cases_eq, false≢true}
use Rattle.std.proofs.Common.{length, ◌≤◌, subst}
use Rattle.std.proofs.lemmas.Bool.{ltb-true, ltb-false, eqb-true}
use Rattle.std.proofs.lemmas.Bool.Decides.{nat_tests}
use Rattle.std.proofs.lemmas.Map.Lookups.{exact_unsigned}
use Rattle.std.specs.List.{list_any}
use Rattle.std.specs.Map.{remove_entry}
use Rattle.std.specs.BTreeMap.{insert_entry}
use Rattle.std.specs.declared.cmp.Ordering.{Ordering}
use Rattle.std.specs.declared.cmp.Ordering.TheVariants.{Less, Equal, Greater}
use Rattle.std.specs.Ordering.{match_ordering, nat_cmp}
use Rattle.osn_territory.specs.declared.regime.Regime.{Regime}
use Rattle.osn_territory.specs.Changes.{with_start}
use Rattle.osn_register_text.proofs.Rows.{look, IsFrom, look_here, look_there, look_below, parts}
use Rattle.osn_register_text.proofs.Rows.{weaken}
use Rattle.osn_register_text.proofs.Rows.{not_none, some_is}

-- the starts of a territory

abbrev Starts : Type 0
Starts = List (ℕ × Regime)

pub started : (d : ℕ) (r : Regime) (ss : Starts) → look d ss ≡ None →
    look d (with_start d r ss) ≡ Some r
started d r [] none = look_here d (d, r) [] refl
started d r (s ∷ ss) none =
    let apart = parts d s ss none in
    elim (nat_lt d s.0) as (λ b. look d (cond b ((d, r) ∷ s ∷ ss) (s ∷ with_start d r ss))
    ≡ Some r) [
      | true ↦ look_here d (d, r) (s ∷ ss) refl
      | false ↦ look_there d s (with_start d r ss) apart.0 ∙ started d r ss apart.1
    ]

pub started_apart : (k d : ℕ) (r : Regime) (ss : Starts) → (k ≡ d → ⊥) →
    look k (with_start d r ss) ≡ look k ss
started_apart k d r [] apart = look_there k (d, r) [] apart
started_apart k d r (s ∷ ss) apart =
    elim (nat_lt d s.0) as (λ b. look k (cond b ((d, r) ∷ s ∷ ss) (s ∷ with_start d r ss))
    ≡ look k (s ∷ ss)) [
      | true ↦ look_there k (d, r) (s ∷ ss) apart
      | false ↦ ap (λ o. cond (k == s.0) (Some s.1) o) (started_apart k d r ss apart)
    ]

abbrev alter : ℕ → Regime → ℕ × Regime → ℕ × Regime
alter d r s = cond (s.0 == d) (d, r) s

alter_here : (d : ℕ) (r : Regime) (s : ℕ × Regime) → d ≡ s.0 → alter d r s ≡ (d, r)
alter_here d r s e = ap (λ b. cond {A = ℕ × Regime} b (d, r) s) (eq-eqb s.0 d (sym e))

alter_there : (d : ℕ) (r : Regime) (s : ℕ × Regime) → (d ≡ s.0 → ⊥) → alter d r s ≡ s
alter_there d r s apart =
    ap (λ b. cond {A = ℕ × Regime} b (d, r) s) (ne_eqb s.0 d (λ e. apart (sym e)))

pub altered : (d : ℕ) (r : Regime) (ss : Starts) → is_some (look d ss) ≡ true →
    look d (map (alter d r) ss) ≡ Some r
altered d r [] some = absurd (false≢true some)
altered d r (s ∷ ss) some = elim (cases_eq d s.0) [
  | inl e ↦ ap (λ x. look d (x ∷ map (alter d r) ss)) (alter_here d r s e)
      ∙ look_here d (d, r) (map (alter d r) ss) refl
  | inr apart ↦ ap (λ x. look d (x ∷ map (alter d r) ss)) (alter_there d r s apart)
      ∙ look_there d s (map (alter d r) ss) apart
      ∙ altered d r ss (ap is_some (sym (look_there d s ss apart)) ∙ some)
]

pub altered_apart : (k d : ℕ) (r : Regime) (ss : Starts) → (k ≡ d → ⊥) →
    look k (map (alter d r) ss) ≡ look k ss
altered_apart k d r [] apart = refl
altered_apart k d r (s ∷ ss) apart = elim (cases_eq d s.0) [
  | inl e ↦ ap (λ x. look k (x ∷ map (alter d r) ss)) (alter_here d r s e)
      ∙ look_there k (d, r) (map (alter d r) ss) apart ∙ altered_apart k d r ss apart
      ∙ sym (look_there k s ss (λ h. apart (h ∙ sym e)))
  | inr other ↦ ap (λ x. look k (x ∷ map (alter d r) ss)) (alter_there d r s other)
      ∙ ap (λ o. cond (k == s.0) (Some s.1) o) (altered_apart k d r ss apart)
]

abbrev is_off : ℕ → ℕ × Regime → Bool
is_off d s = not (s.0 == d)

pub dropped : (d : ℕ) (ss : Starts) → look d (filter (is_off d) ss) ≡ None
dropped d [] = refl
dropped d (s ∷ ss) =
    let left = filter (is_off d) ss in elim (cases_eq d s.0) [
      | inl e ↦ ap (λ b. look d (cond (not b) (s ∷ left) left)) (eq-eqb s.0 d (sym e))
          ∙ dropped d ss
      | inr apart ↦ ap (λ b. look d (cond (not b) (s ∷ left) left))
          (ne_eqb s.0 d (λ h. apart (sym h))) ∙ look_there d s left apart ∙ dropped d ss
    ]

pub dropped_apart : (k d : ℕ) (ss : Starts) → (k ≡ d → ⊥) →
    look k (filter (is_off d) ss) ≡ look k ss
dropped_apart k d [] apart = refl
dropped_apart k d (s ∷ ss) apart =
    let left = filter (is_off d) ss in elim (cases_eq d s.0) [
      | inl e ↦ ap (λ b. look k (cond (not b) (s ∷ left) left)) (eq-eqb s.0 d (sym e))
          ∙ dropped_apart k d ss apart ∙ sym (look_there k s ss (λ h. apart (h ∙ sym e)))
      | inr other ↦ ap (λ b. look k (cond (not b) (s ∷ left) left))
          (ne_eqb s.0 d (λ h. other (sym h)))
          ∙ ap (λ o. cond (k == s.0) (Some s.1) o) (dropped_apart k d ss apart)
    ]

-- whether one starts, by what is found
pub starts_found : (d : ℕ) (ss : Starts) → list_any (λ s. s.0 == d) ss ≡ is_some (look d ss)
starts_found d [] = refl
starts_found d (s ∷ ss) = elim (cases_eq d s.0) [
  | inl e ↦ ap (λ b. b || list_any (λ s. s.0 == d) ss) (eq-eqb s.0 d (sym e))
      ∙ sym (ap is_some (look_here d s ss e))
  | inr apart ↦ ap (λ b. b || list_any (λ s. s.0 == d) ss) (ne_eqb s.0 d (λ h. apart (sym h)))
      ∙ starts_found d ss ∙ sym (ap is_some (look_there d s ss apart))
]

abbrev in_force : ℕ → Regime → Starts → Regime
in_force d before ss = fold (λ b s. cond (nat_le s.0 d) s.1 b) before ss

past : (d n : ℕ) (before : Regime) (ss : Starts) → d < n → IsFrom n ss →
    in_force d before ss ≡ before
past d n before [] low from = refl
past d n before (s ∷ ss) low from =
    ap (λ b. in_force d (cond b s.1 before) ss) (lt-leb s.0 d (omega (arith, from.0)))
    ∙ past d (s.0 + 1) before ss (omega (arith, from.0)) from.1

-- the regime that starts on a day is in force on it
pub found_in_force : (d n : ℕ) (before r : Regime) (ss : Starts) → IsFrom n ss →
    look d ss ≡ Some r → in_force d before ss ≡ r
found_in_force d n before r [] from found = not_none (sym found)
found_in_force d n before r (s ∷ ss) from found = elim (cases_eq d s.0) [
  | inl e ↦ ap (λ b. in_force d (cond b s.1 before) ss) (le-leb s.0 d (omega arith))
      ∙ past d (s.0 + 1) s.1 ss (omega arith) from.1
      ∙ some_is (sym (look_here d s ss e) ∙ found)
  | inr apart ↦ found_in_force d (s.0 + 1) (cond (nat_le s.0 d) s.1 before) r ss from.1
      (sym (look_there d s ss apart) ∙ found)
]

-- the years of a territory

abbrev Years : Type 0
Years = List (ℕ × ℕ)

pub listed : (y d : ℕ) (es : Years) → look y es ≡ None →
    look y (insert_entry nat_cmp es y d) ≡ Some d
listed y d [] none = look_here y (y, d) [] refl
listed y d (e ∷ es) none =
    let apart = parts y e es none in
    by (nat_cmp y e.0) refl apart.0 (look_there y e (insert_entry nat_cmp es y d) apart.0
    ∙ listed y d es apart.1)
  where
    by : (o : Ordering) → nat_cmp y e.0 ≡ o → (y ≡ e.0 → ⊥) →
        look y (e ∷ insert_entry nat_cmp es y d) ≡ Some d →
        look y (match_ordering o ((y, d) ∷ e ∷ es) ((e.0, d) ∷ es)
        (e ∷ insert_entry nat_cmp es y d)) ≡ Some d
    by Less is apart later = look_here y (y, d) (e ∷ es) refl
    by Equal is apart later = absurd (apart (exact_unsigned y e.0 is))
    by Greater is apart later = later

pub listed_apart : (k y d : ℕ) (es : Years) → (k ≡ y → ⊥) →
    look k (insert_entry nat_cmp es y d) ≡ look k es
listed_apart k y d [] apart = look_there k (y, d) [] apart
listed_apart k y d (e ∷ es) apart =
    by (nat_cmp y e.0) refl (ap (λ o. cond (k == e.0) (Some e.1) o) (listed_apart k y d es apart))
  where
    by : (o : Ordering) → nat_cmp y e.0 ≡ o →
        look k (e ∷ insert_entry nat_cmp es y d) ≡ look k (e ∷ es) →
        look k (match_ordering o ((y, d) ∷ e ∷ es) ((e.0, d) ∷ es)
        (e ∷ insert_entry nat_cmp es y d)) ≡ look k (e ∷ es)
    by Less is later = look_there k (y, d) (e ∷ es) apart
    by Equal is later =
        let elsewhere : k ≡ e.0 → ⊥ = λ h. apart (h ∙ sym (exact_unsigned y e.0 is)) in
        look_there k (e.0, d) es elsewhere ∙ sym (look_there k e es elsewhere)
    by Greater is later = later

abbrev left : ℕ → Years → Years
left y es = remove_entry (λ other. y == other) es

pub removed : (n y : ℕ) (es : Years) → IsFrom n es → look y (left y es) ≡ None
removed n y [] from = refl
removed n y (e ∷ es) from = elim (cases_eq y e.0) [
  | inl is ↦ ap (λ b. look y (cond b es (e ∷ left y es))) (eq-eqb y e.0 is)
      ∙ look_below y (e.0 + 1) es (omega arith) from.1
  | inr apart ↦ ap (λ b. look y (cond b es (e ∷ left y es))) (ne_eqb y e.0 apart)
      ∙ look_there y e (left y es) apart ∙ removed (e.0 + 1) y es from.1
]

pub removed_apart : (k y : ℕ) (es : Years) → (k ≡ y → ⊥) → look k (left y es) ≡ look k es
removed_apart k y [] apart = refl
removed_apart k y (e ∷ es) apart = elim (cases_eq y e.0) [
  | inl is ↦ ap (λ b. look k (cond b es (e ∷ left y es))) (eq-eqb y e.0 is)
      ∙ sym (look_there k e es (λ h. apart (h ∙ sym is)))
  | inr other ↦ ap (λ b. look k (cond b es (e ∷ left y es))) (ne_eqb y e.0 other)
      ∙ ap (λ o. cond (k == e.0) (Some e.1) o) (removed_apart k y es apart)
]

pub removed_from : (n y : ℕ) (es : Years) → IsFrom n es → IsFrom n (left y es)
removed_from n y [] from = tt
removed_from n y (e ∷ es) from =
    elim (y == e.0) as (λ b. IsFrom n (cond b es (e ∷ left y es))) [
      | true ↦ weaken n (e.0 + 1) es (omega (arith, from.0)) from.1
      | false ↦ (from.0, removed_from (e.0 + 1) y es from.1)
    ]

-- the keys ascend still

pub started_from : (n d : ℕ) (r : Regime) (ss : Starts) → n ≤ d → look d ss ≡ None →
    IsFrom n ss → IsFrom n (with_start d r ss)
started_from n d r [] low none from = (low, tt)
started_from n d r (s ∷ ss) low none from =
    let apart = parts d s ss none in
    by (nat_lt d s.0) refl apart.0 (λ high. started_from (s.0 + 1) d r ss high apart.1 from.1)
  where
    by : (b : Bool) → nat_lt d s.0 ≡ b → (d ≡ s.0 → ⊥) →
        (s.0 + 1 ≤ d → IsFrom (s.0 + 1) (with_start d r ss)) →
        IsFrom n (cond b ((d, r) ∷ s ∷ ss) (s ∷ with_start d r ss))
    by true e apart later = (low, (omega (arith, ltb-true d s.0 e), from.1))
    by false e apart later = (from.0, later (omega (arith, ltb-false d s.0 e, apart)))

pub altered_from : (n d : ℕ) (r : Regime) (ss : Starts) → IsFrom n ss →
    IsFrom n (map (alter d r) ss)
altered_from n d r [] from = tt
altered_from n d r (s ∷ ss) from =
    let same : (alter d r s).0 ≡ s.0 = by (s.0 == d) refl in (
      omega (arith, same, from.0),
      subst (λ m. IsFrom (m + 1) (map (alter d r) ss)) (sym same)
          (altered_from (s.0 + 1) d r ss from.1),
    )
  where
    by : (b : Bool) → (s.0 == d) ≡ b → (cond {A = ℕ × Regime} b (d, r) s).0 ≡ s.0
    by true e = sym (eqb-true s.0 d e)
    by false e = refl

pub dropped_from : (n d : ℕ) (ss : Starts) → IsFrom n ss → IsFrom n (filter (is_off d) ss)
dropped_from n d [] from = tt
dropped_from n d (s ∷ ss) from =
    let left = filter (is_off d) ss in
    elim (s.0 == d) as (λ b. IsFrom n (cond (not b) (s ∷ left) left)) [
      | true ↦ weaken n (s.0 + 1) left (omega (arith, from.0))
          (dropped_from (s.0 + 1) d ss from.1)
      | false ↦ (from.0, dropped_from (s.0 + 1) d ss from.1)
    ]

less_is : (a b : ℕ) → nat_cmp a b ≡ Less → a + 1 ≤ b
less_is a b h = grind (arith, nat_tests)

greater_is : (a b : ℕ) → nat_cmp a b ≡ Greater → b + 1 ≤ a
greater_is a b h = grind (arith, nat_tests)

pub listed_from : (n y d : ℕ) (es : Years) → n ≤ y → look y es ≡ None → IsFrom n es →
    IsFrom n (insert_entry nat_cmp es y d)
listed_from n y d [] low none from = (low, tt)
listed_from n y d (e ∷ es) low none from =
    let apart = parts y e es none in
    by (nat_cmp y e.0) refl (λ high. listed_from (e.0 + 1) y d es high apart.1 from.1)
  where
    by : (o : Ordering) → nat_cmp y e.0 ≡ o →
        (e.0 + 1 ≤ y → IsFrom (e.0 + 1) (insert_entry nat_cmp es y d)) →
        IsFrom n (match_ordering o ((y, d) ∷ e ∷ es) ((e.0, d) ∷ es)
        (e ∷ insert_entry nat_cmp es y d))
    by Less is later = (low, (less_is y e.0 is, from.1))
    by Equal is later = from
    by Greater is later = (from.0, later (greater_is y e.0 is))

-- and one more is one more

pub length-started : (d : ℕ) (r : Regime) (ss : Starts) →
    length (with_start d r ss) ≡ length ss + 1
length-started d r [] = omega arith
length-started d r (s ∷ ss) =
    elim (nat_lt d s.0) as (λ b. length (cond b ((d, r) ∷ s ∷ ss) (s ∷ with_start d r ss))
    ≡ length (s ∷ ss) + 1) [
      | true ↦ omega arith
      | false ↦ omega (arith, length-started d r ss)
    ]

pub length-listed : (y d : ℕ) (es : Years) → look y es ≡ None →
    length (insert_entry nat_cmp es y d) ≡ length es + 1
length-listed y d [] none = omega arith
length-listed y d (e ∷ es) none =
    let apart = parts y e es none in
    by (nat_cmp y e.0) refl apart.0 (length-listed y d es apart.1)
  where
    by : (o : Ordering) → nat_cmp y e.0 ≡ o → (y ≡ e.0 → ⊥) →
        length (insert_entry nat_cmp es y d) ≡ length es + 1 →
        length (match_ordering o ((y, d) ∷ e ∷ es) ((e.0, d) ∷ es)
        (e ∷ insert_entry nat_cmp es y d)) ≡ length (e ∷ es) + 1
    by Less is apart later = omega arith
    by Equal is apart later = absurd (apart (exact_unsigned y e.0 is))
    by Greater is apart later = omega (arith, later)
