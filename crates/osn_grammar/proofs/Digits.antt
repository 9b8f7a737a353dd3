-- What the digits of a word are, in the words of the calls that read them.
use Rattle.std.proofs.Common.{◌≡◌, ◌≤◌, ◌<◌, ◌^◌, ℕ, true, List, length, Option, Some, arith}
use Rattle.std.proofs.Common.{Result, Ok, refl, subst, sym, IfSome}
use Rattle.std.proofs.lemmas.Bool.{le-leb}
use Rattle.std.specs.Str.{all_ascii_digits}
use Rattle.std.specs.Str.Parse.{ParsesUnsigned, digits_value}
use Rattle.std.proofs.lemmas.Str.Parse.{numerals_by_value, tells_all_ascii_digits, parse_gives}
use Rattle.std.proofs.lemmas.Str.Parse.{digits_value_short}
use Rattle.osn_grammar.specs.Tokens.{value_of}

-- what `parse` gives of up to nine digits
pub number_read : {E : Type 0} (word : List ℕ) (r : Result ℕ E) → ParsesUnsigned 32 10 word r
    → 1 ≤ length word → length word ≤ 9 → all_ascii_digits word ≡ true
    → r ≡ Ok (digits_value 10 word)
number_read word r read some few digits =
    let own = numerals_by_value (λ ds. all_ascii_digits ds ≡ true) tells_all_ascii_digits in
    parse_gives own 32 word r read digits some
    (omega (arith, digits_value_short own word 9 digits few))

-- such digits have a value
pub value_is : (word : List ℕ) → 1 ≤ length word → length word ≤ 9
    → all_ascii_digits word ≡ true → value_of word ≡ Some (digits_value 10 word)
value_is word some few digits =
    rw (le-leb 1 (length word) some, le-leb (length word) 9 few, digits) refl

-- a value of up to nine digits is below 10 ^ 9
pub value_below : (word : List ℕ) (r : Option ℕ) → r ≡ Some (digits_value 10 word)
    → length word ≤ 9 → all_ascii_digits word ≡ true → IfSome r (λ n. n < 10 ^ 9)
value_below word r is few digits =
    let own = numerals_by_value (λ ds. all_ascii_digits ds ≡ true) tells_all_ascii_digits in
    let below : digits_value 10 word < 10 ^ 9 = digits_value_short own word 9 digits few in
    let P : Option ℕ → Type 0 = λ o. IfSome o (λ n. n < 10 ^ 9) in
    subst P (sym is) below

-- such a word has at most nine digits
pub value_short : (word : List ℕ) (r : Option ℕ) → r ≡ Some (digits_value 10 word)
    → length word ≤ 9 → IfSome r (λ _. length word ≤ 9)
value_short word r is few =
    let P : Option ℕ → Type 0 = λ o. IfSome o (λ _. length word ≤ 9) in
    subst P (sym is) few
