-- Members put one after another: the last one of a name is found.
use Rattle.std.proofs.Common.{◌≡◌, ◌+◌, ◌-◌, ◌<◌, ◌≤◌, ℕ, Bool, true, false, true≢false, bytes_eq}
use Rattle.std.proofs.Common.{List, [], ◌∷◌, length, get_or, take, fold, Bor}
use Rattle.std.proofs.Common.{None, Some, option_and_then, refl, ap, sym, ◌∙◌, subst, arith}
use Rattle.std.proofs.lemmas.List.Sums.{fold_more}
use Rattle.std.proofs.lemmas.Slice.Eq.{bytes_eq-Decides}
use Rattle.serde_json.specs.Data.{Members, no_members, put}
use Rattle.serde_json.specs.Find.{get_member}
use Rattle.serde_json.proofs.Views.{get_member-put, get_member-put_other}
use Rattle.osn_request.specs.declared.request.flat.Scalar.{Scalar}
use Rattle.osn_request.specs.declared.request.flat.Scalar.TheVariants.{Text, Whole}
use Rattle.osn_request.specs.LineObject.{if_object}
use Rattle.osn_request.specs.Flat.{put_all, scalar_data, with_member}

differs : (name k : List ℕ) → bytes_eq k name ≡ false → name ≡ k → ⊥
differs name k e same = true≢false (sym ((bytes_eq-Decides k name).1 (sym same)) ∙ e)

module _ (ms : List (Bor (List ℕ) × Scalar)) (n : ℕ) (d : Bor (List ℕ) × Scalar) (name : List ℕ)
    (some : 0 < n) (within : n ≤ length ms) where
  last_put : put_all (take n ms)
      ≡ with_member (put_all (take (n - 1) ms)) (get_or ms (n - 1) d)
  last_put =
      let more : n ≡ n - 1 + 1 = omega (arith, some) in
      ap (λ i. put_all (take i ms)) more
      ∙ fold_more with_member no_members ms (n - 1) d (omega (arith, some, within))

  pub last_found : bytes_eq (get_or ms (n - 1) d).0.now name ≡ true
      → Some (scalar_data (get_or ms (n - 1) d).1) ≡ get_member name (put_all (take n ms))
  last_found e =
      let m = get_or ms (n - 1) d in
      let before = put_all (take (n - 1) ms) in
      let is = (bytes_eq-Decides m.0.now name).0 e in
      let put = get_member-put m.0.now (scalar_data m.1) before in
      sym (ap (get_member name) last_put
      ∙ subst (λ k. get_member k (with_member before m) ≡ Some (scalar_data m.1)) is put)

  pub last_other : bytes_eq (get_or ms (n - 1) d).0.now name ≡ false
      → get_member name (put_all (take n ms)) ≡ get_member name (put_all (take (n - 1) ms))
  last_other e =
      let m = get_or ms (n - 1) d in
      let other = differs name m.0.now e in
      ap (get_member name) last_put
      ∙ get_member-put_other name m.0.now (scalar_data m.1) (put_all (take (n - 1) ms)) other

scalar_is_no_object : (s : Scalar) → if_object (scalar_data s) ≡ None
scalar_is_no_object (Text t) = refl
scalar_is_no_object (Whole z) = refl

abbrev IsNoObject : List ℕ → Members → Type 0
IsNoObject name ms = option_and_then if_object (get_member name ms) ≡ None

still_no_object : (name k : List ℕ) (s : Scalar) (ms : Members) (b : Bool) → bytes_eq k name ≡ b
    → IsNoObject name ms → IsNoObject name (put k (scalar_data s) ms)
still_no_object name k s ms true e none =
    let is = (bytes_eq-Decides k name).0 e in
    let d = scalar_data s in
    let found = subst (λ n. get_member n (put k d ms) ≡ Some d) is (get_member-put k d ms) in
    ap (option_and_then if_object) found ∙ scalar_is_no_object s
still_no_object name k s ms false e none =
    let kept = get_member-put_other name k (scalar_data s) ms (differs name k e) in
    ap (option_and_then if_object) kept ∙ none

-- no member of a flat object is an object
pub no_object : (name : List ℕ) (ms : List (Bor (List ℕ) × Scalar)) (found : Members)
    → IsNoObject name found → IsNoObject name (fold with_member found ms)
no_object name [] found none = none
no_object name (m ∷ ms) found none =
    let still = still_no_object name m.0.now m.1 found (bytes_eq m.0.now name) refl none in
    no_object name ms (with_member found m) still
