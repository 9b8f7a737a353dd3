-- What the parts and numbers of a written date are, in the words of the calls that find them.
use Rattle.std.proofs.Common.{◌≡◌, ◌<◌, ◌≤◌, ℕ, suc, ◌+◌, Bool, true, false, not, cond, ◌==◌}
use Rattle.std.proofs.Common.{if◌then◌else◌, List, [], ◌∷◌, length, take, drop, Option, Some, None}
use Rattle.std.proofs.Common.{arith, ap, refl, option_map, MatchOption, Bor, ◌∙◌, sym, Result, Ok}
use Rattle.std.proofs.Common.{subst, ◌^◌, IfSome}
use Rattle.std.specs.List.{position_or_len, before_first, after_first}
use Rattle.std.specs.Str.{all_ascii_digits}
use Rattle.std.specs.Str.Parse.{ParsesUnsigned, digits_value}
use Rattle.std.proofs.lemmas.Str.Parse.{numerals_by_value, tells_all_ascii_digits, parse_gives}
use Rattle.std.proofs.lemmas.Str.Parse.{digits_value_short}
use Rattle.std.proofs.lemmas.Bool.{le-leb}
use Rattle.osn_written.specs.WrittenDate.{parts_at, with_first, number_of}

first_taken : (n b : ℕ) (rest : List ℕ)
    → option_map (with_first b) (Some (take n rest, drop (n + 1) rest))
    ≡ Some (take (1 + n) (b ∷ rest), drop (1 + n + 1) (b ∷ rest))
first_taken n b rest =
    let more : 1 + n ≡ suc n = omega arith in
    let two : 1 + n + 1 ≡ suc (n + 1) = omega arith in
    rw (two, more) refl

one_found : (t : Bool) (n b : ℕ) (rest : List ℕ) (parts : Option (List ℕ × List ℕ))
    → cond (not t) (1 + n) 0 < length (b ∷ rest)
    → (n < length rest → parts ≡ Some (take n rest, drop (n + 1) rest))
    → (if t then Some ([], rest) else option_map (with_first b) parts)
    ≡ Some (take (cond (not t) (1 + n) 0) (b ∷ rest), drop (cond (not t) (1 + n) 0 + 1) (b ∷ rest))
one_found true n b rest parts low more = refl
one_found false n b rest parts low more =
    ap (option_map (with_first b)) (more (omega (arith, low))) ∙ first_taken n b rest

parts_found : (c : ℕ) (s : List ℕ) → position_or_len (λ b. b == c) s < length s
    → parts_at c s ≡ Some (before_first (λ b. b == c) s, after_first (λ b. b == c) s)
parts_found c [] low = absurd (omega (arith, low))
parts_found c (b ∷ rest) low = one_found (b == c) (position_or_len (λ b. b == c) rest) b rest
    (parts_at c rest) low (parts_found c rest)

one_none : (t : Bool) (n b : ℕ) (rest : List ℕ) (parts : Option (List ℕ × List ℕ))
    → cond (not t) (1 + n) 0 ≡ length (b ∷ rest) → (n ≡ length rest → parts ≡ None)
    → (if t then Some ([], rest) else option_map (with_first b) parts) ≡ None
one_none true n b rest parts whole more = absurd (omega (arith, whole))
one_none false n b rest parts whole more =
    ap (option_map (with_first b)) (more (omega (arith, whole)))

parts_none : (c : ℕ) (s : List ℕ) → position_or_len (λ b. b == c) s ≡ length s
    → parts_at c s ≡ None
parts_none c [] whole = refl
parts_none c (b ∷ rest) whole = one_none (b == c) (position_or_len (λ b. b == c) rest) b rest
    (parts_at c rest) whole (parts_none c rest)

-- the parts that `split_once` gives
pub parts_split : (c : ℕ) (s : List ℕ) (r : Option (Bor (List ℕ) × Bor (List ℕ)))
    → MatchOption r (position_or_len (λ b. b == c) s ≡ length s)
    (λ x. (x.0.now ≡ before_first (λ b. b == c) s) × (x.1.now ≡ after_first (λ b. b == c) s)
    × (position_or_len (λ b. b == c) s < length s))
    → option_map (λ x. (x.0.now, x.1.now)) r ≡ parts_at c s
parts_split c s None none = sym (parts_none c s none)
parts_split c s (Some x) found =
    ap (λ a. Some (a, x.1.now)) found.0
    ∙ ap (λ b. Some (before_first (λ d. d == c) s, b)) found.1
    ∙ sym (parts_found c s found.2)

-- what `parse` gives of up to nine digits
pub number_read : {E : Type 0} (part : List ℕ) (r : Result ℕ E) → ParsesUnsigned 32 10 part r
    → 1 ≤ length part → length part ≤ 9 → all_ascii_digits part ≡ true
    → r ≡ Ok (digits_value 10 part)
number_read part r read some few digits =
    let own = numerals_by_value (λ ds. all_ascii_digits ds ≡ true) tells_all_ascii_digits in
    parse_gives own 32 part r read digits some
    (omega (arith, digits_value_short own part 9 digits few))

-- such digits are a number
pub number_is : (part : List ℕ) → 1 ≤ length part → length part ≤ 9
    → all_ascii_digits part ≡ true → number_of part ≡ Some (digits_value 10 part)
number_is part some few digits =
    rw (le-leb 1 (length part) some, le-leb (length part) 9 few, digits) refl

-- a number of up to nine digits is below 10 ^ 9
pub number_below : (part : List ℕ) (r : Option ℕ) → r ≡ Some (digits_value 10 part)
    → length part ≤ 9 → all_ascii_digits part ≡ true → IfSome r (λ n. n < 10 ^ 9)
number_below part r is few digits =
    let own = numerals_by_value (λ ds. all_ascii_digits ds ≡ true) tells_all_ascii_digits in
    let below : digits_value 10 part < 10 ^ 9 = digits_value_short own part 9 digits few in
    let P : Option ℕ → Type 0 = λ o. IfSome o (λ n. n < 10 ^ 9) in
    subst P (sym is) below
