-- The number of bytes in ended lines, by the place of the last line feed, and after more bytes.
use Rattle.std.proofs.Common.{◌≡◌, ◌+◌, ◌-◌, ◌≤◌, ◌==◌, ℕ, zero, suc, Bool, true, false, List}
use Rattle.std.proofs.Common.{[], ◌∷◌, ◌++◌, length, refl, ap, ◌∙◌, arith, cond}
use Rattle.std.proofs.Common.{zero-le}
use Rattle.memchr.specs.Find.{Nowhere, NoneAfter, Passes, is_byte}
use Rattle.osn_lines.specs.LastLineFeed.{with_byte, ended_length}

-- ---- by the last line feed

-- a byte other than a line feed, before no ended line
with_other : (b : ℕ) (n : ℕ) → (b == 10) ≡ false → n ≡ 0 → with_byte b n ≡ 0
with_other b zero other none = ap (λ t. cond t 1 0) other
with_other b (suc n) other none = absurd (omega (arith, none))

not_true : (t : Bool) → (t ≡ true → ⊥) → t ≡ false
not_true true h = absurd (h refl)
not_true false h = refl

pub ended-none : (bytes : List ℕ) → Nowhere (Passes (is_byte 10) bytes) 0 (length bytes)
    → ended_length bytes ≡ 0
ended-none [] none = refl
ended-none (b ∷ bs) none =
    with_other b (ended_length bs) (not_true (b == 10) (none 0 (omega arith) (omega arith)))
    (ended-none bs (λ k low high. none (suc k) (omega arith) (omega (arith, high))))

pub ended-at : (bytes : List ℕ) (k : ℕ)
    → NoneAfter (Passes (is_byte 10) bytes) 0 (length bytes) k → Passes (is_byte 10) bytes k
    → ended_length bytes ≡ k + 1
ended-at [] k last is = absurd (omega (arith, last.high))
ended-at (b ∷ bs) zero last is =
    ap (with_byte b)
    (ended-none bs (λ k low high. last.after (suc k) (omega arith) (omega (arith, high))))
    ∙ ap (λ t. cond t 1 0) is
ended-at (b ∷ bs) (suc k) last is =
    let rest : ended_length bs ≡ k + 1 =
    ended-at bs k
    (record {
      low = omega arith;
      high = omega (arith, last.high);
      after = λ j low high. last.after (suc j) (omega (arith, low)) (omega (arith, high));
    }) is in
    after_more (ended_length bs) rest
  where
    after_more : (n : ℕ) → n ≡ k + 1 → with_byte b n ≡ suc k + 1
    after_more zero h = absurd (omega (arith, h))
    after_more (suc n) h = omega (arith, h)

-- ---- more bytes

-- bytes with no line feed that come last leave the ended lines as they were
pub ended-before : (xs ys : List ℕ) → ended_length ys ≡ 0
    → ended_length (xs ++ ys) ≡ ended_length xs
ended-before [] ys none = none
ended-before (x ∷ xs) ys none = ap (with_byte x) (ended-before xs ys none)

-- if those bytes have a line feed, the ended lines reach into them
pub ended-within : (xs ys : List ℕ) (k : ℕ) → ended_length ys ≡ suc k
    → ended_length (xs ++ ys) ≡ suc (length xs + k)
ended-within [] ys k some = omega (arith, some)
ended-within (x ∷ xs) ys k some = ap (with_byte x) (ended-within xs ys k some) ∙ omega arith

-- a byte more has one more at most
with_byte-le : (b n m : ℕ) → n ≤ m → with_byte b n ≤ suc m
with_byte-le b zero m low =
    elim (b == 10) as (λ (t : Bool). cond t 1 0 ≤ suc m) [
      | true ↦ omega arith
      | false ↦ omega arith
    ]
with_byte-le b (suc n) m low = omega (arith, low)

-- the bytes of ended lines are no longer than all bytes
pub ended-le : (xs : List ℕ) → ended_length xs ≤ length xs
ended-le [] = zero-le
ended-le (x ∷ xs) = with_byte-le x (ended_length xs) (length xs) (ended-le xs)
