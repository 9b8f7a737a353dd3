use Rattle.std.proofs.Common.{◌≡◌, ◌≤◌, ◌<◌, ◌+◌, ◌%◌, ◌^◌, ◌∙◌, ◌==◌, ℕ, min, ap, sym}
use Rattle.std.proofs.Common.{arith, inl, inr}
use Rattle.std.proofs.lemmas.Bool.{cases_order}
use Rattle.std.proofs.Math.Nat.{one-le-pow, pow-le-pow_right, mod-eq_of_lt, min-eq_left}
use Rattle.osn_grammar.proofs.simple.ends_next_year.Goals as goal

few_digits : (y d : ℕ) → d ≤ 5 → y % 10 ^ min d 5 ≡ y % 10 ^ d
few_digits y d few = ap (λ k. y % 10 ^ k) (min-eq_left few)

-- of a number of five digits the last ones are at most five
last_digits : (y d : ℕ) → y < 10 ^ 5 → y % 10 ^ min d 5 ≡ y % 10 ^ d
last_digits y d low =
    elim (cases_order d 5) [
      | inl same ↦ few_digits y d (omega (arith, same))
      | inr (inl few) ↦ few_digits y d (omega (arith, few))
      | inr (inr more) ↦ let five : min d 5 ≡ 5 = omega (arith, more) in
          let least : 5 ≤ d = omega (arith, more) in
          let some : 0 < 10 = omega arith in
          let power : 10 ^ 5 ≤ 10 ^ d = pow-le-pow_right some least in
          let below : y < 10 ^ d = omega (arith, low, power) in
          ap (λ k. y % 10 ^ k) five ∙ mod-eq_of_lt low ∙ sym (mod-eq_of_lt below)
    ]

pub nonzero_rem-result : goal.nonzero_rem-result
nonzero_rem-result c =
    let positive : 1 ≤ 10 ^ c.min.result = one-le-pow c.min.result 10 (omega arith) in
    omega (arith, c.pow.ensures, positive)

pub returns : goal.returns
returns c =
    let low : c.args.year + 1 < 10 ^ 5 = omega (arith, c.requires) in
    ap (λ p. c.args.later == (c.args.year + 1) % p) (c.pow.ensures ∙ ap (λ k. 10 ^ k) c.min.ensures)
    ∙ ap (λ r. c.args.later == r) (last_digits (c.args.year + 1) c.args.digits low)
