-- The digits of a year, and how the text of a year is read.
use Rattle.std.proofs.Common.{◌≡◌, ◌≤◌, ◌<◌, ℕ, ◌^◌, nat_le, ◌==◌, Bool, true, false, not, ◌&&◌}
use Rattle.std.proofs.Common.{if◌then◌else◌, List, [], ◌∷◌, ◌++◌, codes, length, pos, Option}
use Rattle.std.proofs.Common.{Some, None, inl, inr, zero, suc, refl, sym, ap, ◌∙◌, subst, ⊎_elim}
use Rattle.std.proofs.Common.{arith, ◌+◌, ◌*◌, ◌/◌, ◌%◌, append_assoc, length-append}
use Rattle.std.specs.Fmt.{decimal}
use Rattle.std.specs.Str.{all_ascii_digits}
use Rattle.std.specs.Str.Parse.{digits_value}
use Rattle.std.proofs.Math.Arith.{mod-mul}
use Rattle.std.proofs.Math.Nat.{one-le-pow, pow-suc}
use Rattle.std.proofs.lemmas.Bool.{cases_lt, cases_order, le-leb, leb-true, le-ltb, lt-ltb, ne_eqb}
use Rattle.std.proofs.lemmas.Bool.Decides.{Decides-eqb}
use Rattle.std.proofs.lemmas.Fmt.{decimal_is_IsNumeral, decimal_nonempty, decimal_digit}
use Rattle.std.proofs.lemmas.Fmt.{decimal_step, length-decimal-le}
use Rattle.std.proofs.lemmas.Str.Parse.{numerals_by_value, tells_all_ascii_digits}
use Rattle.osn_days.specs.Month.{month_name}
use Rattle.osn_grammar.specs.declared.token.Numeral.{Numeral}
use Rattle.osn_grammar.specs.declared.token.Token.TheVariants.{Number}
use Rattle.osn_written.specs.declared.any_date.Year.{Year}
use Rattle.osn_grammar.proofs.FormFacts.{IsYear, year_tokens}
use Rattle.osn_grammar.proofs.TextFacts.{Reads, slash, digits_read, joined_reads}
use Rattle.osn_territory.specs.Dual.{later_digits, year_text}
use Rattle.osn_territory.proofs.YearDigits.{last_digit_differs, earlier_digit_differs}
use Rattle.osn_written.specs.DateInWords.{zeros_before, words_of_year}
use Rattle.osn_grammar.specs.WordsRead.{is_writable_year}

-- ---- numbers

pub decimal_digits : (n : ℕ) → n < 10 ^ 9 → all_ascii_digits (decimal n) ≡ true
decimal_digits n small =
    let own = numerals_by_value (λ ds. all_ascii_digits ds ≡ true) tells_all_ascii_digits in
    own.from (decimal n) (decimal_is_IsNumeral n (omega (arith, small))).0.1

pub decimal_value : (n : ℕ) → n < 10 ^ 9 → digits_value 10 (decimal n) ≡ n
decimal_value n small = (decimal_is_IsNumeral n (omega (arith, small))).1

-- ---- the digits of the later of two years

-- the last digits of the later year are those of a number
pub record IsLaterNumber (e l : ℕ) : Type 0 where
  pub number : ℕ
  pub is : decimal number ≡ later_digits (decimal e) (decimal l)
  pub low : 1 ≤ number
  pub high : number ≤ l
  pub ends : number ≡ l % 10 ^ length (decimal number)

one_digit : (l : ℕ) → l % 10 ≡ l % 10 ^ length (decimal (l % 10))
one_digit l =
    let digit : length (decimal (l % 10)) ≡ 1 =
    ap length (decimal_digit (l % 10) (omega arith)) in
    rw digit (omega arith)

-- one digit more before the last ones
digit_more : (l n k : ℕ) → n ≡ l / 10 % 10 ^ k → 10 * n + l % 10 ≡ l % 10 ^ suc k
digit_more l n k is =
    let positive : 1 ≤ 10 ^ k = one-le-pow k 10 (omega arith) in
    let split : l % (10 ^ k * 10) ≡ (l / 10 % 10 ^ k) * 10 + l % 10 =
    mod-mul l positive (omega arith) in
    let power : 10 ^ suc k ≡ 10 ^ k * 10 = pow-suc 10 k in
    rw power (omega (arith, split, is))

length_more : (n d : ℕ) → 1 ≤ n → d < 10 → 10 * n + d < 2 ^ 64
    → length (decimal (10 * n + d)) ≡ suc (length (decimal n))
length_more n d low digit fits =
    let front : (10 * n + d) / 10 ≡ n = omega arith in
    ap length (decimal_step (10 * n + d) (omega arith) fits)
    ∙ ap (λ m. length (decimal m ++ (48 + (10 * n + d) % 10) ∷ [])) front
    ∙ omega (arith, length-append (decimal n) ((48 + (10 * n + d) % 10) ∷ []))

pub later_number : (most e l : ℕ) → l ≤ most → e < l → l < 10 ^ 9 → IsLaterNumber e l
later_number zero e l within below small = absurd (omega (arith, within, below))
later_number (suc most) e l within below small =
    let fits : l < 2 ^ 64 = omega (arith, small) in
    elim (cases_order (e / 10) (l / 10)) [
      | inl same ↦ record {
        number = l % 10;
        is = last_digit_differs e l below fits same;
        low = omega (arith, same, below);
        high = omega arith;
        ends = one_digit l;
      }
      | inr (inl less) ↦ let front = later_number most (e / 10) (l / 10)
          (omega (arith, within, below)) less (omega (arith, small)) in
          record {
            number = 10 * front.number + l % 10;
            is = earlier_digit_differs e l front.number below fits
                (λ same. omega (arith, same, less)) front.low (omega (arith, front.high)) front.is;
            low = omega (arith, front.low);
            high = omega (arith, front.high);
            ends = rw (length_more front.number (l % 10) front.low (omega arith)
                (omega (arith, front.high, small)))
                (digit_more l front.number (length (decimal front.number)) front.ends);
          }
      | inr (inr more) ↦ absurd (omega (arith, more, below))
    ]

-- ---- numbers of at least three digits

-- the digits of a number, at least that many of them
pub record IsLongNumber (least n : ℕ) (word : List ℕ) : Type 0 where
  pub digits : all_ascii_digits word ≡ true
  pub value : digits_value 10 word ≡ n
  pub some : least ≤ length word
  pub few : length word ≤ 9

one_more : (n : ℕ) → 10 ≤ n → n < 10 ^ 9 → length (decimal n) ≡ length (decimal (n / 10)) + 1
one_more n ten small =
    ap length (decimal_step n ten (omega (arith, small)))
    ∙ length-append (decimal (n / 10)) ((48 + n % 10) ∷ [])

short : (n : ℕ) → n ≤ 10000 → length (decimal n) ≤ 5
short n high = length-decimal-le 5 n (omega arith) (omega (arith, high)) (omega (arith, high))

some_digits : (n : ℕ) → n ≤ 10000 → 1 ≤ length (decimal n)
some_digits n high = omega (arith, decimal_nonempty n (omega (arith, high)))

two_digits : (n : ℕ) → n ≤ 10000 → 10 ≤ n → 2 ≤ length (decimal n)
two_digits n high ten =
    omega (arith, one_more n ten (omega (arith, high)), some_digits (n / 10) (omega (arith, high)))

three_digits : (n : ℕ) → n ≤ 10000 → 100 ≤ n → 3 ≤ length (decimal n)
three_digits n high hundred =
    omega (
      arith,
      one_more n (omega (arith, hundred)) (omega (arith, high)),
      two_digits (n / 10) (omega (arith, high)) (omega (arith, hundred)),
    )

four_digits : (n : ℕ) → n ≤ 10000 → 1000 ≤ n → 4 ≤ length (decimal n)
four_digits n high thousand =
    omega (
      arith,
      one_more n (omega (arith, thousand)) (omega (arith, high)),
      three_digits (n / 10) (omega (arith, high)) (omega (arith, thousand)),
    )

-- a number without zeros before it
pub bare : (least n : ℕ) → n ≤ 10000 → least ≤ length (decimal n) → IsLongNumber least n (decimal n)
bare least n high some = record {
  digits = decimal_digits n (omega (arith, high));
  value = decimal_value n (omega (arith, high));
  some = some;
  few = omega (arith, short n high);
}

pub from_hundred : (n : ℕ) → n ≤ 10000 → 100 ≤ n → IsLongNumber 3 n (decimal n)
from_hundred n high hundred = bare 3 n high (three_digits n high hundred)

-- a number below 100 has four digits with the zeros before it
below_ten : (n : ℕ) → n ≤ 10000 → n < 10 → IsLongNumber 4 n (zeros_before n ++ decimal n)
below_ten n high low = rw (lt-ltb n 10 low) (record {
  digits = decimal_digits n (omega (arith, high));
  value = decimal_value n (omega (arith, high));
  some = omega (arith, some_digits n high);
  few = omega (arith, short n high);
})

below_hundred : (n : ℕ) → n ≤ 10000 → 10 ≤ n → n < 100
    → IsLongNumber 4 n (zeros_before n ++ decimal n)
below_hundred n high ten low = rw (le-ltb n 10 ten, lt-ltb n 100 low) (record {
  digits = decimal_digits n (omega (arith, high));
  value = decimal_value n (omega (arith, high));
  some = omega (arith, two_digits n high ten);
  few = omega (arith, short n high);
})

below_thousand : (n : ℕ) → n ≤ 10000 → 100 ≤ n → n < 1000
    → IsLongNumber 4 n (zeros_before n ++ decimal n)
below_thousand n high hundred low =
    rw (le-ltb n 10 (omega (arith, hundred)), le-ltb n 100 hundred, lt-ltb n 1000 low) (record {
      digits = decimal_digits n (omega (arith, high));
      value = decimal_value n (omega (arith, high));
      some = omega (arith, three_digits n high hundred);
      few = omega (arith, short n high);
    })

from_thousand : (n : ℕ) → n ≤ 10000 → 1000 ≤ n → IsLongNumber 4 n (zeros_before n ++ decimal n)
from_thousand n high thousand =
    rw (
      le-ltb n 10 (omega (arith, thousand)),
      le-ltb n 100 (omega (arith, thousand)),
      le-ltb n 1000 thousand,
    ) (bare 4 n high (four_digits n high thousand))

year_number : (n : ℕ) → n ≤ 10000 → IsLongNumber 4 n (zeros_before n ++ decimal n)
year_number n high =
    ⊎_elim (λ low. below_ten n high low)
    (λ ten. ⊎_elim (λ low. below_hundred n high ten low)
    (λ hundred. ⊎_elim (λ low. below_thousand n high hundred low)
    (λ thousand. from_thousand n high thousand) (cases_lt n 1000)) (cases_lt n 100))
    (cases_lt n 10)

-- a number of digits, and how many
abbrev pub numeral : ℕ → List ℕ → Numeral
numeral n word = record { value = n; digits = length word }

long_reads : (least n : ℕ) (word : List ℕ) → 3 ≤ least → IsLongNumber least n word
    → Reads word (Number (numeral n word) ∷ [])
long_reads least n word three number =
    digits_read word n (length word) number.digits number.value refl
    (omega (arith, three, number.some)) number.few

pub decimal_reads : (n : ℕ) → n < 10 ^ 9
    → Reads (decimal n) (Number (numeral n (decimal n)) ∷ [])
decimal_reads n small =
    digits_read (decimal n) n (length (decimal n)) (decimal_digits n small) (decimal_value n small)
    refl (omega (arith, decimal_nonempty n (omega (arith, small))))
    (length-decimal-le 9 n (omega arith) small (omega (arith, small)))

-- ---- years

-- a year of these digits
abbrev pub year_in : ℕ → Bool → List ℕ → Year
year_in n double word = record {
  first = n;
  is_double = double;
  has_three_digits = length word == 3 && nat_le 100 n;
}

-- the text is read as the numbers of the year
pub record IsYearRead (text : List ℕ) (year : Year) : Type 0 where
  pub first : Numeral
  pub later : Option Numeral
  pub reads : Reads text (year_tokens first later)
  pub is : IsYear first later year

single_read : (least n : ℕ) (word : List ℕ) → n ≤ 10000 → 3 ≤ least → IsLongNumber least n word
    → IsYearRead word (year_in n false word)
single_read least n word high three number =
    let long = le-leb 3 (length word) (omega (arith, three, number.some)) in
    record {
      first = numeral n word;
      later = None;
      reads = long_reads least n word three number;
      is = record { long = long; is = rw (long, le-ltb 10000 n high) refl };
    }

double_read : (least n later : ℕ) (word : List ℕ) → n ≤ 10000 → 3 ≤ least
    → IsLongNumber least n word → later < 10 ^ 9
    → later ≡ (n + 1) % 10 ^ length (decimal later)
    → IsYearRead (word ++ 47 ∷ decimal later) (year_in n true word)
double_read least n later word high three number small ends =
    let long = le-leb 3 (length word) (omega (arith, three, number.some)) in
    let last : (later == (n + 1) % 10 ^ length (decimal later)) ≡ true =
    (Decides-eqb later ((n + 1) % 10 ^ length (decimal later))).1 ends in
    record {
      first = numeral n word;
      later = Some (numeral later (decimal later));
      reads = joined_reads slash (long_reads least n word three number)
          (decimal_reads later small);
      is = record { long = long; is = rw (long, le-ltb 10000 n high, last) refl };
    }

-- the text of a year with some zeros before it
abbrev pub padded_year : List ℕ → ℕ → Bool → List ℕ
padded_year zeros n double = zeros ++ year_text (pos n) (pos (if double then n + 1 else n))

pub year_by : (zeros : List ℕ) (least n : ℕ) (double : Bool) → n ≤ 10000 → 3 ≤ least
    → IsLongNumber least n (zeros ++ decimal n)
    → IsYearRead (padded_year zeros n double) (year_in n double (zeros ++ decimal n))
year_by zeros least n false high three number =
    rw (le-ltb n n (omega arith)) (single_read least n (zeros ++ decimal n) high three number)
year_by zeros least n true high three number =
    let later = later_number (n + 1) n (n + 1) (omega arith) (omega arith) (omega (arith, high)) in
    let read = double_read least n later.number (zeros ++ decimal n) high three number
    (omega (arith, later.high, high)) later.ends in
    rw (lt-ltb n (n + 1) (omega arith), sym later.is)
    (subst (λ text. IsYearRead text (year_in n true (zeros ++ decimal n)))
    (append_assoc zeros (decimal n) (47 ∷ decimal later.number)) read)

pub both : (a b : Bool) → (a && b) ≡ true → (a ≡ true) × (b ≡ true)
both true b h = (refl, h)
both false b h = absurd (cc)

pub is_not : (b : Bool) → not b ≡ true → b ≡ false
is_not false h = refl
is_not true h = absurd (cc)

-- the words of a year have four digits at least
pub year_read : (y : Year) → is_writable_year y ≡ true → IsYearRead (words_of_year y) y
unfolding words_of_year
year_read y ok =
    let oks = both (nat_le y.first 10000) (not y.has_three_digits) ok in
    let high = leb-true y.first 10000 oks.0 in
    let word = zeros_before y.first ++ decimal y.first in
    let number = year_number y.first high in
    let four : (length word == 3) ≡ false =
    ne_eqb (length word) 3 (λ same. omega (arith, same, number.some)) in
    let same : (length word == 3 && nat_le 100 y.first) ≡ y.has_three_digits =
    rw four (sym (is_not y.has_three_digits oks.1)) in
    subst (λ three. IsYearRead (padded_year (zeros_before y.first) y.first y.is_double)
    (record y { has_three_digits = three })) same
    (year_by (zeros_before y.first) 4 y.first y.is_double high (omega arith) number)

-- ---- dates

-- a text of day, month and year
abbrev pub words : ℕ → ℕ → List ℕ → List ℕ
words day month years =
    decimal day ++ (codes " " ++ (month_name month ++ (codes " " ++ years)))
