-- A quoted text, and the digits of a number: how long they are, that they are UTF-8, and that no
-- byte is a line feed.
use Rattle.std.proofs.Common.{◌≡◌, ℕ, zero, suc, ◌+◌, ◌*◌, ◌^◌, ◌<◌, ◌≤◌, ◌==◌, ◌&&◌, Bool, true}
use Rattle.std.proofs.Common.{false}
use Rattle.std.proofs.Common.{not, nat_le, List, [], ◌∷◌, length, get_or, inl, inr}
use Rattle.std.proofs.Common.{refl}
use Rattle.std.proofs.Common.{subst, arith, length-append, decimal, leb-true, IsUtf8}
use Rattle.std.proofs.lemmas.Bool.{and_parts, cases_lt, ne_eqb}
use Rattle.std.proofs.lemmas.Fmt.{decimal_is_IsNumeral, IsAscii-decimal, length-decimal-le}
use Rattle.std.proofs.lemmas.Str.{IsUtf8-from_ascii}
use Rattle.std.proofs.lemmas.Str.Parse.{digit_at}
use Rattle.json.specs.Print.{escape_byte, escape, quoted}
use Rattle.json.proofs.Printed.Strings.{escape_byte_plain}
use Rattle.osn_lines.specs.Inside.{HasNoFeed}
use Rattle.osn_lines.proofs.LineLemmas.{HasNoFeed-append}

-- no byte is a line feed, as a test
abbrev has_no_feed : List ℕ → Bool
has_no_feed [] = true
has_no_feed (b ∷ bs) = not (b == 10) && has_no_feed bs

negated : (b : Bool) → not b ≡ true → b ≡ false
negated true e = absurd (cc)
negated false e = refl

pub HasNoFeed-test : (bs : List ℕ) → has_no_feed bs ≡ true → HasNoFeed bs
HasNoFeed-test [] e = tt
HasNoFeed-test (b ∷ bs) e =
    let p = and_parts _ _ e in (negated (b == 10) p.0, HasNoFeed-test bs p.1)

-- the text of a byte has six bytes at most, and no line feed
abbrev is_fine : List ℕ → Bool
is_fine bs = nat_le (length bs) 6 && has_no_feed bs

abbrev fine_below : ℕ → Bool
fine_below zero = true
fine_below (suc n) = is_fine (escape_byte n) && fine_below n

fine_at : (n : ℕ) → fine_below n ≡ true → (x : ℕ) → x < n → is_fine (escape_byte x) ≡ true
fine_at zero e x h = absurd (omega arith)
fine_at (suc n) e x h =
    let p = and_parts _ _ e in
    elim (cases_lt x n) [
      | inl below ↦ fine_at n p.1 x below
      | inr at ↦
          let same : n ≡ x = omega arith in
          subst (λ y. is_fine (escape_byte y) ≡ true) same p.0
    ]

all_fine : fine_below 128 ≡ true
unfolding escape_byte
all_fine = refl

-- how long an escaped byte is, and that no byte of it is a line feed
escape_byte-fine : (x : ℕ) → (length (escape_byte x) ≤ 6) × HasNoFeed (escape_byte x)
escape_byte-fine x = elim (cases_lt x 128) [
  | inl low ↦
      let p = and_parts _ _ (fine_at 128 all_fine x low) in
      (leb-true _ _ p.0, HasNoFeed-test _ p.1)
  | inr high ↦
      let plain : (length (x ∷ []) ≤ 6) × HasNoFeed (x ∷ []) =
      (omega arith, (ne_eqb x 10 (λ e. omega arith), tt)) in
      let same = escape_byte_plain x (λ e. omega arith) (λ e. omega arith) (omega arith) in
      rw same plain
]

length-escape : (s : List ℕ) → length (escape s) ≤ 6 * length s
length-escape [] = omega arith
length-escape (x ∷ s) =
    omega (arith, length-append (escape_byte x) (escape s), (escape_byte-fine x).0, length-escape s)

HasNoFeed-escape : (s : List ℕ) → HasNoFeed (escape s)
HasNoFeed-escape [] = tt
HasNoFeed-escape (x ∷ s) =
    HasNoFeed-append (escape_byte x) (escape s) (escape_byte-fine x).1 (HasNoFeed-escape s)

pub length-quoted : (s : List ℕ) → length (quoted s) ≤ 6 * length s + 2
length-quoted s = omega (arith, length-append (escape s) (34 ∷ []), length-escape s)

pub HasNoFeed-quoted : (s : List ℕ) → HasNoFeed (quoted s)
HasNoFeed-quoted s = (refl, HasNoFeed-append (escape s) (34 ∷ []) (HasNoFeed-escape s) (refl, tt))

no_feed_at : (bs : List ℕ) → ((i : ℕ) → i < length bs → 48 ≤ get_or bs i 0) → HasNoFeed bs
no_feed_at [] h = tt
no_feed_at (b ∷ bs) h =
    let first : 48 ≤ b = h 0 (omega arith) in
    (ne_eqb b 10 (λ e. omega arith), no_feed_at bs (λ i below. h (suc i) (omega arith)))

pub HasNoFeed-decimal : (n : ℕ) → n < 2 ^ 64 → HasNoFeed (decimal n)
HasNoFeed-decimal n h =
    no_feed_at (decimal n) (λ i below. (digit_at _ i (decimal_is_IsNumeral n h).0.1 below).0)

pub IsUtf8-decimal : (n : ℕ) → n < 2 ^ 64 → IsUtf8 (decimal n)
IsUtf8-decimal n h = IsUtf8-from_ascii (decimal n) (IsAscii-decimal n h)

pub length-decimal : (n : ℕ) → n < 10 ^ 8 → length (decimal n) ≤ 8
length-decimal n h = length-decimal-le 8 n (omega arith) h (omega arith)
