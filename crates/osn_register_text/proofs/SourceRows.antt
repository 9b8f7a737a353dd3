-- What is found of a number's source, and of the others', if one is given or taken away.
use Rattle.std.proofs.Common.{◌≡◌, ℕ, inl, inr, Bool, true, false, cond, not, ◌==◌, List, [], ◌∷◌}
use Rattle.std.proofs.Common.{◌++◌, find, Option, Some, None, option_map, refl, sym, ap, ◌∙◌}
use Rattle.std.proofs.lemmas.Bool.{eq-eqb, ne_eqb, cases_eq, false≢true}
use Rattle.std.proofs.lemmas.Slice.Eq.{bytes_eq-Decides}
use Rattle.osn_register.specs.Sources.{source_of, without_source, with_source}
use Rattle.osn_register_text.specs.CitedSources.{same_source}
use Rattle.osn_register_text.proofs.Rows.{not_none}

abbrev Cites : Type 0
Cites = List (ℕ × List ℕ)

-- the source of a number with the number
abbrev entry : ℕ → Cites → Option (ℕ × List ℕ)
entry n ss = find (λ s. s.0 == n) ss

abbrev text : Option (ℕ × List ℕ) → Option (List ℕ)
text o = option_map (λ s. s.1) o

gone : (n : ℕ) (ss : Cites) → entry n (without_source n ss) ≡ None
gone n [] = refl
gone n (s ∷ ss) = by (s.0 == n) refl (gone n ss)
  where
    by : (b : Bool) → (s.0 == n) ≡ b → entry n (without_source n ss) ≡ None →
        entry n (cond (not b) (s ∷ without_source n ss) (without_source n ss)) ≡ None
    by true e later = later
    by false e later = ap (λ b. cond b (Some s) (entry n (without_source n ss))) e ∙ later

left_apart : (k n : ℕ) (ss : Cites) → (k ≡ n → ⊥) → entry k (without_source n ss) ≡ entry k ss
left_apart k n [] apart = refl
left_apart k n (s ∷ ss) apart =
    let left = without_source n ss in elim (cases_eq s.0 n) [
      | inl e ↦ ap (λ b. entry k (cond (not b) (s ∷ left) left)) (eq-eqb s.0 n e)
          ∙ left_apart k n ss apart
          ∙ sym (ap (λ b. cond b (Some s) (entry k ss)) (ne_eqb s.0 k (λ h. apart (sym h ∙ e))))
      | inr other ↦ ap (λ b. entry k (cond (not b) (s ∷ left) left)) (ne_eqb s.0 n other)
          ∙ ap (λ o. cond (s.0 == k) (Some s) o) (left_apart k n ss apart)
    ]

pushed : (p : ℕ × List ℕ) (ss : Cites) → entry p.0 ss ≡ None → entry p.0 (ss ++ p ∷ []) ≡ Some p
pushed p [] none = ap (λ b. cond b (Some p) None) (eq-eqb p.0 p.0 refl)
pushed p (s ∷ ss) none = by (s.0 == p.0) none (pushed p ss)
  where
    by : (b : Bool) → cond b (Some s) (entry p.0 ss) ≡ None →
        (entry p.0 ss ≡ None → entry p.0 (ss ++ p ∷ []) ≡ Some p) →
        cond b (Some s) (entry p.0 (ss ++ p ∷ [])) ≡ Some p
    by true none later = not_none none
    by false none later = later none

pushed_apart : (k : ℕ) (p : ℕ × List ℕ) (ss : Cites) → (k ≡ p.0 → ⊥) →
    entry k (ss ++ p ∷ []) ≡ entry k ss
pushed_apart k p [] apart =
    ap (λ b. cond b (Some p) None) (ne_eqb p.0 k (λ h. apart (sym h)))
pushed_apart k p (s ∷ ss) apart =
    ap (λ o. cond (s.0 == k) (Some s) o) (pushed_apart k p ss apart)

pub source_here : (n : ℕ) (source : Option (List ℕ)) (ss : Cites) →
    source_of n (with_source n source ss) ≡ source
source_here n None ss = ap text (gone n ss)
source_here n (Some given) ss =
    let p : ℕ × List ℕ = (n, given) in ap text (pushed p (without_source n ss) (gone n ss))

pub source_apart : (k n : ℕ) (source : Option (List ℕ)) (ss : Cites) → (k ≡ n → ⊥) →
    source_of k (with_source n source ss) ≡ source_of k ss
source_apart k n None ss apart = ap text (left_apart k n ss apart)
source_apart k n (Some given) ss apart =
    let p : ℕ × List ℕ = (n, given) in
    ap text (pushed_apart k p (without_source n ss) apart ∙ left_apart k n ss apart)

-- the test whether two sources are one

pub same_is : (a b : Option (List ℕ)) → same_source a b ≡ true → a ≡ b
same_is None None same = refl
same_is None (Some b) same = absurd (false≢true same)
same_is (Some a) None same = absurd (false≢true same)
same_is (Some a) (Some b) same = ap (λ t. Some t) ((bytes_eq-Decides a b).0 same)

pub source_itself : (a : Option (List ℕ)) → same_source a a ≡ true
source_itself None = refl
source_itself (Some a) = (bytes_eq-Decides a a).1 refl
