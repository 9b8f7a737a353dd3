-- The letters of the Sundays of a year.
use Rattle.std.proofs.Common.{◌≡◌, ◌≢◌, ℕ, zero, suc, ◌+◌, ◌-◌, ◌%◌, ◌<◌, ◌≤◌, inl, inr, true}
use Rattle.std.proofs.Common.{false, nat_le, Decides, Option, Some, refl, sym, ap, subst, ◌∙◌}
use Rattle.std.proofs.Common.{arith, pos}
use Rattle.std.proofs.lemmas.Bool.{cases_lt, cases_order}
use Rattle.std.proofs.lemmas.Bool.Decides.{nat_tests, Decides-and, Decides-eqb, Decides-int_eq}
use Rattle.std.proofs.lemmas.Int.{ints}
use Rattle.std.specs.Option.{option_to_list}
use Rattle.osn_days.specs.declared.date.Date.{Date}
use Rattle.osn_days.specs.declared.calendar.Calendar.{Calendar}
use Rattle.osn_days.specs.declared.calendar.Calendar.TheVariants.{Julian, Gregorian, Swedish}
use Rattle.osn_days.specs.Rules.{newest_rules}
use Rattle.osn_days.specs.Line.{weekday, IsDay, IsYear}
use Rattle.osn_days.specs.Chain.{is_leap, month_length, chain, date_of, days_with_date}
use Rattle.osn_days.proofs.ChainFacts.{chain_apart, chain_rises}
use Rattle.osn_days.proofs.LineFacts.{one_day}
use Rattle.osn_days.proofs.RangeFacts.{PassingDay, found_on_line}
use Rattle.osn_computus.specs.declared.letter.Letter.{Letter}
use Rattle.osn_computus.specs.declared.letter.Letter.TheVariants.{A, B, C, D, E, F, G}
use Rattle.osn_computus.specs.declared.letters.Letters.{Letters}
use Rattle.osn_computus.specs.Letters.{letter_number, has_letters, is_leap_day, letter_at}
use Rattle.osn_computus.specs.Letters.{letter_of, is_sunday_of, letter_of_sundays, letters_of}
use Rattle.osn_computus.specs.Letters.{AreSundayLetters}
use Rattle.osn_computus.proofs.WalkFacts.{date, lt_test, ge_test, on_in_month, to_next_month}
use Rattle.osn_computus.proofs.WalkFacts.{march_1, march_on_chain, march_1-bound, january_8}
use Rattle.osn_computus.proofs.MoonFacts.{march_at, some_same, one_of, spring_found}
use Rattle.osn_computus.proofs.PlaceFacts.{mark, mark_test, ahead_early, ahead_late, leap_days}
use Rattle.osn_computus.proofs.PlaceFacts.{leap_days-common, leap_days-bound, length_february}
use Rattle.osn_computus.proofs.PlaceFacts.{Placed, placed}

with_number : ℕ → Letter
with_number zero = A
with_number (suc zero) = B
with_number (suc (suc zero)) = C
with_number (suc (suc (suc zero))) = D
with_number (suc (suc (suc (suc zero)))) = E
with_number (suc (suc (suc (suc (suc zero))))) = F
with_number (suc (suc (suc (suc (suc (suc n)))))) = G

with_number_of : (l : Letter) → with_number (letter_number l) ≡ l
unfolding with_number
with_number_of A = refl
with_number_of B = refl
with_number_of C = refl
with_number_of D = refl
with_number_of E = refl
with_number_of F = refl
with_number_of G = refl

letter_small : (l : Letter) → letter_number l < 7
letter_small A = omega arith
letter_small B = omega arith
letter_small C = omega arith
letter_small D = omega arith
letter_small E = omega arith
letter_small F = omega arith
letter_small G = omega arith

-- letters with one number are one
same_letter : (a b : Letter) → letter_number a ≡ letter_number b → a ≡ b
same_letter a b is = sym (with_number_of a) ∙ ap with_number is ∙ with_number_of b

-- a letter that is r places after 1 March's day, counted round
abbrev pub IsMoved : Calendar → ℕ → ℕ → Letter → Type 0
IsMoved c y r l = (letter_number l + march_1 c y) % 7 ≡ r

moved_same : (c : Calendar) (y r : ℕ) (a b : Letter) → IsMoved c y r a → IsMoved c y r b → a ≡ b
moved_same c y r a b p q =
    same_letter a b (omega (arith, letter_small a, letter_small b))

-- the letter of a Sunday
sunday_moved : (c : Calendar) (n y m d : ℕ) → Placed c n y m d → (n + 1) % 7 ≡ 0 → mark m d ≡ 0
    → (m < 3 → IsMoved c y (2 + leap_days c y) (letter_at c n)) ×
    (3 ≤ m → IsMoved c y 2 (letter_at c n))
sunday_moved c n y m d p sunday plain = (
  λ early. omega (arith, p.count, p.letter, ahead_early c y m early, leap_days-bound c y),
  λ
      late. omega (arith, p.count, p.letter, ahead_late c y m late),
)

-- letters that far from 1 March are those of all Sundays
pub are_sunday_letters : (c : Calendar) → c ≢ Swedish → (y : ℕ) (letters : Letters)
    → IsMoved c y (2 + leap_days c y) letters.january → IsMoved c y 2 letters.march
    → AreSundayLetters newest_rules c y letters
are_sunday_letters c months y letters january march d on year sunday plain =
    let s = placed c months (d - 1) in
    let p = s.3 in
    let here : pos s.0 ≡ pos y = sym (ap (λ (e : Date). e.year) p.is) ∙ year in
    let same : s.0 ≡ y = omega (arith, ints, here) in
    let month : (date_of c d).month ≡ s.1 = ap (λ (e : Date). e.month) p.is in
    let unmarked = mark_test (pos s.0) s.1 s.2
    (subst (λ (e : Date). is_leap_day e ≡ false) p.is plain) in
    let moved = sunday_moved c (d - 1) s.0 s.1 s.2 p
    (let more : d - 1 + 1 ≡ d = omega (arith, on.0) in rw more sunday) unmarked in
    elim (cases_lt s.1 3) [
      | inl early ↦
          let is : IsMoved c y (2 + leap_days c y) (letter_of c d) =
          subst (λ (k : ℕ). IsMoved c k (2 + leap_days c k) (letter_of c d)) same (moved.0 early) in
          rw month (rw (lt_test s.1 3 early)
          (moved_same c y (2 + leap_days c y) (letter_of c d) letters.january is january))
      | inr late ↦
          let is : IsMoved c y 2 (letter_of c d) =
          subst (λ (k : ℕ). IsMoved c k 2 (letter_of c d)) same (moved.1 late) in
          rw month (rw (ge_test s.1 3 late)
          (moved_same c y 2 (letter_of c d) letters.march is march))
    ]

Decides-leb : (a b : ℕ) → Decides (nat_le a b) (a ≤ b)
Decides-leb a b = (λ h. grind (arith, nat_tests), λ h. grind (arith, nat_tests))

sunday_decides : (c : Calendar) (y low high d : ℕ)
    → Decides (is_sunday_of c y low high d)
    ((weekday d ≡ 0) × (((date_of c d).year ≡ pos y) ×
    ((low ≤ (date_of c d).month) × ((date_of c d).month ≤ high))))
sunday_decides c y low high d =
    Decides-and _ _ (Decides-eqb (weekday d) 0)
    (Decides-and _ _ (Decides-int_eq (date_of c d).year (pos y))
    (Decides-and _ _ (Decides-leb low (date_of c d).month) (Decides-leb (date_of c d).month high)))

-- a Sunday of some months shows their letter
pub letter_found : (c : Calendar) (y low high : ℕ) (l : Letter)
    → PassingDay newest_rules (is_sunday_of c y low high)
    → ((d : ℕ) → IsDay newest_rules d → (date_of c d).year ≡ pos y → weekday d ≡ 0
    → low ≤ (date_of c d).month → (date_of c d).month ≤ high → letter_of c d ≡ l)
    → letter_of_sundays newest_rules c y low high ≡ Some l
unfolding letter_of_sundays
letter_found c y low high l found each =
    let parts = (sunday_decides c y low high found.day).0 found.passes in
    rw found.is (ap Some (each found.day found.on parts.1.0 parts.0 parts.1.1.0 parts.1.1.1))

not_leap_month : (e : Date) → e.month ≢ 2 → is_leap_day e ≡ false
not_leap_month e other = grind (arith, nat_tests)

-- a Sunday of January is on the line
pub record January (c : Calendar) (y : ℕ) : Type 0 where
  pub day : ℕ
  pub low : 1 ≤ day
  pub high : day ≤ newest_rules.high
  pub is : is_sunday_of c y 1 1 day ≡ true
  pub before_march : day ≤ march_1 c y + 1

-- a day of January is before 1 March
january_early : (c : Calendar) → c ≢ Swedish → (y n : ℕ) (day : ℕ) → 1 ≤ y → day ≤ 31
    → chain c n ≡ date (pos y) 1 day → n ≤ march_1 c y
january_early c months y n day low high is =
    let march = march_at c months y low in
    elim (cases_lt (march_1 c y) n) [
      | inl lt ↦ absurd (omega (arith, ints, rw (march, is) at (chain_rises c (march_1 c y) n lt)))
      | inr le ↦ le
    ]

pub january_sunday : (c : Calendar) → c ≢ Swedish → (y : ℕ) → IsYear newest_rules y → January c y
january_sunday c months y year =
    let first = january_8 c months (y - 1) (omega (arith, year.1)) in
    let n = first.0 in
    let k = 6 - n % 7 in
    let more : y - 1 + 1 ≡ y = omega (arith, year.0) in
    let at = on_in_month c months (pos (y - 1 + 1)) 1 8 n k first.1 (omega arith) in
    let d = n + k + 1 in
    let place : d - 1 ≡ n + k = omega arith in
    let here : date_of c d ≡ date (pos y) 1 (8 + k) =
    rw place (at ∙ ap (λ (x : ℕ). date (pos x) 1 (8 + k)) more) in
    let early = january_early c months y (d - 1) (8 + k) year.0 (omega arith) here in
    record {
      day = d;
      low = omega arith;
      high = omega (arith, first.2);
      is =
          (sunday_decides c y 1 1 d).1 (
            omega arith,
            (
              ap (λ (e : Date). e.year) here,
              (
                omega (arith, ap (λ (e : Date). e.month) here),
                omega (arith, ap (λ (e : Date). e.month) here),
              ),
            ),
          );
      before_march = omega (arith, early);
    }

pub january_found : (c : Calendar) → c ≢ Swedish → (y : ℕ) → IsYear newest_rules y
    → PassingDay newest_rules (is_sunday_of c y 1 1)
january_found c months y year =
    let sunday = january_sunday c months y year in
    found_on_line newest_rules (is_sunday_of c y 1 1) sunday.day (sunday.low, sunday.high) sunday.is

-- the first Sunday of March
abbrev pub march_sunday : Calendar → ℕ → ℕ
march_sunday c y = march_1 c y + (6 - march_1 c y % 7) + 1

pub march_sunday_is : (c : Calendar) → c ≢ Swedish → (y : ℕ) → IsYear newest_rules y
    → is_sunday_of c y 3 12 (march_sunday c y) ≡ true
march_sunday_is c months y year =
    let n = march_1 c y in
    let k = 6 - n % 7 in
    let more : y - 1 + 1 ≡ y = omega (arith, year.0) in
    let first = march_on_chain c months (y - 1) in
    let start : chain c n ≡ date (pos y) 3 1 = rw more at first in
    let at = on_in_month c months (pos y) 3 1 n k start (omega arith) in
    let d = n + k + 1 in
    let place : d - 1 ≡ n + k = omega arith in
    let here : date_of c d ≡ date (pos y) 3 (1 + k) = rw place at in
    (sunday_decides c y 3 12 d).1 (
      omega arith,
      (
        ap (λ (e : Date). e.year) here,
        (
          omega (arith, ap (λ (e : Date). e.month) here),
          omega (arith, ap (λ (e : Date). e.month) here),
        ),
      ),
    )

pub march_found : (c : Calendar) → c ≢ Swedish → (y : ℕ) → IsYear newest_rules y
    → PassingDay newest_rules (is_sunday_of c y 3 12)
march_found c months y year =
    let bound = march_1-bound c y year.0 year.1 in
    found_on_line newest_rules (is_sunday_of c y 3 12) (march_sunday c y)
    (omega arith, omega (arith, bound.1)) (march_sunday_is c months y year)

has_letters_is : (c : Calendar) → c ≢ Swedish → has_letters c ≡ true
has_letters_is Julian months = refl
has_letters_is Gregorian months = refl
has_letters_is Swedish months = absurd (months refl)

-- the letters of the definition, day by day through the year, are the Sunday letters
pub letters_are : (c : Calendar) → c ≢ Swedish → (y : ℕ) (letters : Letters) → IsYear newest_rules y
    → AreSundayLetters newest_rules c y letters → letters_of newest_rules c y ≡ Some letters
unfolding letters_of
letters_are c months y letters year each =
    let january : letter_of_sundays newest_rules c y 1 1 ≡ Some letters.january =
    letter_found c y 1 1 letters.january (january_found c months y year)
    (λ d on here sunday low high. each d on here sunday (not_leap_month (date_of c d) (omega arith))
    ∙ rw (lt_test (date_of c d).month 3 (omega arith)) refl) in
    let march : letter_of_sundays newest_rules c y 3 12 ≡ Some letters.march =
    letter_found c y 3 12 letters.march (march_found c months y year)
    (λ d on here sunday low high. each d on here sunday (not_leap_month (date_of c d) (omega arith))
    ∙ rw (ge_test (date_of c d).month 3 low) refl) in
    rw (has_letters_is c months) (rw january (rw march refl))

chain_injective : (c : Calendar) (m n : ℕ) → chain c m ≡ chain c n → m ≡ n
chain_injective c m n e =
    elim (cases_order m n) [ inl same ↦ same | inr apart ↦ absurd (chain_apart c m n apart e) ]

-- 1 February of a year on the line
pub record February (c : Calendar) (y : ℕ) : Type 0 where
  pub day : ℕ
  pub on : IsDay newest_rules day
  pub is : date_of c day ≡ date (pos y) 2 1
  pub before_march : day + 27 + leap_days c y ≡ march_1 c y

pub february : (c : Calendar) → c ≢ Swedish → (y : ℕ) → IsYear newest_rules y → February c y
february c months y year =
    let first = january_8 c months (y - 1) (omega (arith, year.1)) in
    let n = first.0 + 24 in
    let more : y - 1 + 1 ≡ y = omega (arith, year.0) in
    let here = to_next_month c months (pos (y - 1 + 1)) 1 8 first.0 n first.1 (omega arith)
    (omega arith) (omega arith) in
    let is : chain c n ≡ date (pos y) 2 1 = rw more at here in
    let length = length_february c y in
    let march = to_next_month c months (pos y) 2 1 n (n + month_length c (pos y) 2) is (omega arith)
    (omega (arith, length)) (omega arith) in
    let same = chain_injective c (n + month_length c (pos y) 2) (march_1 c y)
    (march ∙ sym (march_at c months y year.0)) in
    let place : n + 1 - 1 ≡ n = omega arith in
    record {
      day = n + 1;
      on = (omega arith, omega (arith, same, length, march_1-bound c y year.0 year.1));
      is = rw place is;
      before_march = omega (arith, same, length);
    }

-- a search for 1 February finds it
pub february_found : (c : Calendar) (months : c ≢ Swedish) (y : ℕ) (year : IsYear newest_rules y)
    (day : Option ℕ) → option_to_list day ≡ days_with_date newest_rules c (date (pos y) 2 1)
    → day ≡ Some (february c months y year).day
february_found c months y year day e =
    let f = february c months y year in
    one_of day f.day _ e (sym (one_day newest_rules c (date (pos y) 2 1) f.day f.on f.is))

pub february_1_is : (c : Calendar) → c ≢ Swedish → (y : ℕ) → IsYear newest_rules y
    → (day : Option ℕ) (d : ℕ) → option_to_list day
    ≡ days_with_date newest_rules c (date (pos y) 2 1)
    → day ≡ Some d → d + 27 + leap_days c y ≡ march_1 c y
february_1_is c months y year day d e is =
    let f = february c months y year in
    let same = some_same d f.day day is (february_found c months y year day e) in
    omega (arith, same, f.before_march)

pub march_1_is : (c : Calendar) → c ≢ Swedish → (y : ℕ) → IsYear newest_rules y
    → (day : Option ℕ) (d : ℕ) → option_to_list day
    ≡ days_with_date newest_rules c (date (pos y) 3 1)
    → day ≡ Some d → d ≡ march_1 c y + 1
march_1_is c months y year day d e is =
    omega (arith, some_same d _ day is (spring_found c months y 0 year (omega arith) day e))

-- the letters of the Sundays, from 1 February and 1 March, whose letter is D
pub letters_from : (c : Calendar) → c ≢ Swedish → (y f m : ℕ) (letters : Letters)
    → f + 27 + leap_days c y ≡ march_1 c y → m ≡ march_1 c y + 1
    → (letter_number letters.january + f) % 7 ≡ 3 → (letter_number letters.march + m) % 7 ≡ 3
    → AreSundayLetters newest_rules c y letters
letters_from c months y f m letters february march p q =
    are_sunday_letters c months y letters
    (omega (arith, february, p, leap_days-bound c y)) (omega (arith, march, q))

pub same_in_common_year : (c : Calendar) (y f m : ℕ) (letters : Letters) → is_leap c (pos y) ≡ false
    → f + 27 + leap_days c y ≡ march_1 c y → m ≡ march_1 c y + 1
    → (letter_number letters.january + f) % 7 ≡ 3 → (letter_number letters.march + m) % 7 ≡ 3
    → letters.january ≡ letters.march
same_in_common_year c y f m letters common february march p q =
    let none = leap_days-common c y common in
    moved_same c y 2 letters.january letters.march
    (omega (arith, february, none, p)) (omega (arith, march, q))
