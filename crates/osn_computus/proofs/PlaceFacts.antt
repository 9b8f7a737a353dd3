-- The place of each date of a chain that follows the lengths of the months: how many days the date
-- is after 1 March, and which letter it has.
use Rattle.std.proofs.Common.{◌≡◌, ◌≢◌, ℕ, zero, suc, ◌+◌, ◌-◌, ◌%◌, ◌<◌, ◌≤◌, inl, inr, ◌==◌, ◌&&◌}
use Rattle.std.proofs.Common.{false, nat_lt, if◌then◌else◌, refl, ap, subst, ◌∙◌, arith, ℤ}
use Rattle.std.proofs.Common.{pos}
use Rattle.std.proofs.lemmas.Bool.{cases_lt, cases_order}
use Rattle.std.proofs.lemmas.Bool.Decides.{nat_tests}
use Rattle.osn_days.specs.declared.date.Date.{Date}
use Rattle.osn_days.specs.declared.calendar.Calendar.{Calendar}
use Rattle.osn_days.specs.declared.calendar.Calendar.TheVariants.{Julian, Gregorian, Swedish}
use Rattle.osn_days.specs.Chain.{is_leap, month_length, next, chain}
use Rattle.osn_days.proofs.ChainFacts.{chain-zero, chain-suc, month_length_bounds}
use Rattle.osn_computus.specs.declared.letter.Letter.{Letter}
use Rattle.osn_computus.specs.declared.letter.Letter.TheVariants.{A, B, C, D, E, F, G}
use Rattle.osn_computus.specs.Letters.{letter_number, next_letter, is_new_year, is_leap_day}
use Rattle.osn_computus.specs.Letters.{letter_after, first_letter, letter_at}
use Rattle.osn_computus.proofs.WalkFacts.{date, next_day, next_month, next_year, march_1}
use Rattle.osn_computus.proofs.WalkFacts.{march_1-suc}

-- the days of the first months of a common year
pub before : ℕ → ℕ
before zero = 0
before (suc m) = before m + month_length Julian (pos 1) (suc m)

before-suc : (m : ℕ) → before (suc m) ≡ before m + month_length Julian (pos 1) (suc m)
unfolding before
before-suc m = refl

before_more : (m : ℕ) → 1 ≤ m → before (m + 1 - 1) ≡ before (m - 1) + month_length Julian (pos 1) m
before_more m low =
    let next : m + 1 - 1 ≡ suc (m - 1) = omega arith in
    let here : suc (m - 1) ≡ m = omega arith in
    rw next (before-suc (m - 1)
    ∙ ap (λ (k : ℕ). before (m - 1) + month_length Julian (pos 1) k) here)

before_none : before 0 ≡ 0
unfolding before
before_none = refl

before_year : before 12 ≡ 365
unfolding before
before_year = refl

-- 1 in a leap year and else 0
pub leap_days : Calendar → ℕ → ℕ
leap_days c y = if is_leap c (pos y) then 1 else 0

pub leap_days-common : (c : Calendar) (y : ℕ) → is_leap c (pos y) ≡ false → leap_days c y ≡ 0
unfolding leap_days
leap_days-common c y is = rw is refl

pub leap_days-bound : (c : Calendar) (y : ℕ) → leap_days c y ≤ 1
unfolding leap_days
leap_days-bound c y = grind arith

-- a month has the days of a common year, and February of a leap year one more
pub length_february : (c : Calendar) (y : ℕ) → month_length c (pos y) 2 ≡ 28 + leap_days c y
unfolding leap_days
length_february c y = grind arith

length_at_two : (c : Calendar) (y m : ℕ) → m ≡ 2 → month_length c (pos y) m ≡ 28 + leap_days c y
length_at_two c y m is = ap (λ (k : ℕ). month_length c (pos y) k) is ∙ length_february c y

length_other : (c : Calendar) (y m : ℕ) → m ≢ 2
    → month_length c (pos y) m ≡ month_length Julian (pos 1) m
length_other c y m other = grind (arith, nat_tests)

-- 1 on 29 February and else 0
pub mark : ℕ → ℕ → ℕ
mark m d = if (m == 2) && (d == 29) then 1 else 0

mark_same : mark 2 29 ≡ 1
unfolding mark
mark_same = refl

mark_full : (m k : ℕ) → m ≡ 2 → k ≤ 1 → mark m (28 + k) ≡ k
unfolding mark
mark_full m k february small = grind (arith, nat_tests)

mark_day : (m d : ℕ) → d ≢ 29 → mark m d ≡ 0
unfolding mark
mark_day m d other = grind (arith, nat_tests)

mark_month : (m d : ℕ) → m ≢ 2 → mark m d ≡ 0
unfolding mark
mark_month m d other = grind (arith, nat_tests)

pub mark_test : (y : ℤ) (m d : ℕ) → is_leap_day (date y m d) ≡ false → mark m d ≡ 0
unfolding mark
mark_test y m d other = rw other refl

-- the leap day lies before 1 March
pub ahead : Calendar → ℕ → ℕ → ℕ
ahead c y m = if nat_lt m 3 then leap_days c y else 0

pub ahead_early : (c : Calendar) (y m : ℕ) → m < 3 → ahead c y m ≡ leap_days c y
unfolding ahead
ahead_early c y m lt = grind (arith, nat_tests)

pub ahead_late : (c : Calendar) (y m : ℕ) → 3 ≤ m → ahead c y m ≡ 0
unfolding ahead
ahead_late c y m le = grind (arith, nat_tests)

-- what is known of the date n days after day 1
pub record Placed (c : Calendar) (n y m d : ℕ) : Type 0 where
  pub is : chain c n ≡ date (pos y) m d
  pub year_low : 1 ≤ y
  pub month_low : 1 ≤ m
  pub month_high : m ≤ 12
  pub day_low : 1 ≤ d
  pub day_high : d ≤ month_length c (pos y) m
  pub count : n + 59 + ahead c y m ≡ march_1 c y + before (m - 1) + (d - 1)
  pub letter : letter_number (letter_at c n) ≡ (before (m - 1) + (d - 1) - mark m d) % 7

letter_at-suc : (c : Calendar) (n : ℕ)
    → letter_at c (suc n) ≡ letter_after (chain c (suc n)) (letter_at c n)
unfolding letter_at
letter_at-suc c n = refl

letter_number-next : (l : Letter) → letter_number (next_letter l) ≡ (letter_number l + 1) % 7
letter_number-next A = refl
letter_number-next B = refl
letter_number-next C = refl
letter_number-next D = refl
letter_number-next E = refl
letter_number-next F = refl
letter_number-next G = refl

after_plain : (y : ℤ) (m d : ℕ) (l : Letter) → is_new_year (date y m d) ≡ false
    → is_leap_day (date y m d) ≡ false
    → letter_number (letter_after (date y m d) l) ≡ (letter_number l + 1) % 7
after_plain y m d l new leap = rw (new, leap) (letter_number-next l)

not_new_day : (y : ℤ) (m d : ℕ) → d ≢ 1 → is_new_year (date y m d) ≡ false
not_new_day y m d other = grind (arith, nat_tests)

not_new_month : (y : ℤ) (m d : ℕ) → m ≢ 1 → is_new_year (date y m d) ≡ false
not_new_month y m d other = grind (arith, nat_tests)

not_leap_day : (y : ℤ) (m d : ℕ) → d ≢ 29 → is_leap_day (date y m d) ≡ false
not_leap_day y m d other = grind (arith, nat_tests)

not_leap_month : (y : ℤ) (m d : ℕ) → m ≢ 2 → is_leap_day (date y m d) ≡ false
not_leap_month y m d other = grind (arith, nat_tests)

-- the letter of the day after
letter_next : (c : Calendar) (n : ℕ) (e : Date) → chain c (suc n) ≡ e
    → letter_at c (suc n) ≡ letter_after e (letter_at c n)
letter_next c n e is = letter_at-suc c n ∙ ap (λ (x : Date). letter_after x (letter_at c n)) is

letter_plain : (c : Calendar) (n : ℕ) (y : ℤ) (m d : ℕ) → chain c (suc n) ≡ date y m d
    → is_new_year (date y m d) ≡ false → is_leap_day (date y m d) ≡ false
    → letter_number (letter_at c (suc n)) ≡ (letter_number (letter_at c n) + 1) % 7
letter_plain c n y m d is new leap =
    ap letter_number (letter_next c n (date y m d) is) ∙ after_plain y m d (letter_at c n) new leap

-- the letter of the next day of a month, which is not 29 February
day_letter_plain : (c : Calendar) (n y m d : ℕ) → Placed c n y m d
    → chain c (suc n) ≡ date (pos y) m (d + 1) → is_leap_day (date (pos y) m (d + 1)) ≡ false
    → mark m d ≡ 0 → mark m (d + 1) ≡ 0
    → letter_number (letter_at c (suc n)) ≡ (before (m - 1) + (d + 1 - 1) - mark m (d + 1)) % 7
day_letter_plain c n y m d p is leap here there =
    let day = p.day_low in
    let step = letter_plain c n (pos y) m (d + 1) is (not_new_day (pos y) m (d + 1) (omega arith))
    leap in
    omega (arith, step, p.letter)

day_letter : (c : Calendar) (n y m d : ℕ) → Placed c n y m d → d < month_length c (pos y) m
    → chain c (suc n) ≡ date (pos y) m (d + 1)
    → letter_number (letter_at c (suc n)) ≡ (before (m - 1) + (d + 1 - 1) - mark m (d + 1)) % 7
day_letter c n y m d p lt is =
    elim (cases_order m 2) [
      | inl february ↦
          elim (cases_order d 28) [
            | inl last ↦
                let at : chain c (suc n) ≡ date (pos y) 2 29 =
                rw (← february) (is ∙ ap (λ (k : ℕ). date (pos y) m (k + 1)) last) in
                let same = ap letter_number (letter_next c n (date (pos y) 2 29) at) in
                let old : letter_number (letter_at c n) ≡ (before 1 + 27 - mark 2 28) % 7 =
                rw (february, last) at p.letter in
                rw (february, last) (omega
                (arith, same, old, mark_same, mark_day 2 28 (omega arith)))
            | inr (inl lower) ↦
                day_letter_plain c n y m d p is (not_leap_day (pos y) m (d + 1) (omega arith))
                (mark_day m d (omega arith)) (mark_day m (d + 1) (omega arith))
            | inr (inr above) ↦
                absurd (omega (arith, length_at_two c y m february, leap_days-bound c y))
          ]
      | inr other ↦
          let not_two : m ≢ 2 = elim other [ inl a ↦ omega arith | inr b ↦ omega arith ] in
          day_letter_plain c n y m d p is (not_leap_month (pos y) m (d + 1) not_two)
          (mark_month m d not_two) (mark_month m (d + 1) not_two)
    ]

step_day : (c : Calendar) → c ≢ Swedish → (n y m d : ℕ) → Placed c n y m d
    → d < month_length c (pos y) m → Placed c (suc n) y m (d + 1)
step_day c months n y m d p lt =
    let is : chain c (suc n) ≡ date (pos y) m (d + 1) = chain-suc c n ∙ ap (next c) p.is
    ∙ next_day c months (pos y) m d lt in
    record {
      is = is;
      year_low = p.year_low;
      month_low = p.month_low;
      month_high = p.month_high;
      day_low = omega arith;
      day_high = omega arith;
      count = omega arith;
      letter = day_letter c n y m d p lt is;
    }

-- the last day of a month against the days of a common year
full_month : (c : Calendar) (y m d : ℕ) → 1 ≤ m → d ≡ month_length c (pos y) m
    → (d ≡ month_length Julian (pos 1) m + mark m d) ×
    (d + ahead c y (m + 1) ≡ month_length Julian (pos 1) m + ahead c y m)
full_month c y m d low full =
    elim (cases_order m 2) [
      | inl february ↦
          let length = length_at_two c y m february in
          let common : month_length Julian (pos 1) m ≡ 28 =
          ap (λ (k : ℕ). month_length Julian (pos 1) k) february in
          let marked : mark m d ≡ leap_days c y = ap (mark m) (full ∙ length)
          ∙ mark_full m (leap_days c y) february (leap_days-bound c y) in (
            omega (arith, length, common, marked),
            omega (
              arith,
              length,
              common,
              ahead_early c y m (omega arith),
              ahead_late c y (m + 1)
                  (omega arith),
            ),
          )
      | inr (inl january) ↦
          let length = length_other c y m (omega arith) in (
            omega (arith, length, mark_month m d (omega arith)),
            omega (
              arith,
              length,
              ahead_early c y m (omega arith),
              ahead_early c y (m + 1)
                  (omega arith),
            ),
          )
      | inr (inr later) ↦
          let length = length_other c y m (omega arith) in (
            omega (arith, length, mark_month m d (omega arith)),
            omega (
              arith,
              length,
              ahead_late c y m (omega arith),
              ahead_late c y (m + 1)
                  (omega arith),
            ),
          )
    ]

step_month : (c : Calendar) → c ≢ Swedish → (n y m d : ℕ) → Placed c n y m d
    → d ≡ month_length c (pos y) m → m < 12 → Placed c (suc n) y (m + 1) 1
step_month c months n y m d p full lt =
    let is : chain c (suc n) ≡ date (pos y) (m + 1) 1 = chain-suc c n ∙ ap (next c) p.is
    ∙ next_month c months (pos y) m d (omega arith) lt in
    let days = full_month c y m d p.month_low full in
    let low = p.month_low in
    let day = p.day_low in
    let month : m - 1 + 1 ≡ m = omega arith in
    let more : before (m + 1 - 1) ≡ before (m - 1) + month_length Julian (pos 1) m =
    before_more m low in
    let bounds = month_length_bounds Julian (pos 1) m in
    let none : mark (m + 1) 1 ≡ 0 = mark_day (m + 1) 1 (omega arith) in
    let step = letter_plain c n (pos y) (m + 1) 1 is (not_new_month (pos y) (m + 1) 1 (omega arith))
    (not_leap_day (pos y) (m + 1) 1 (omega arith)) in
    record {
      is = is;
      year_low = p.year_low;
      month_low = omega arith;
      month_high = omega arith;
      day_low = omega arith;
      day_high = grind (arith, nat_tests);
      count = omega (arith, p.count, days.0, days.1, more);
      letter = omega (arith, step, p.letter, days.0, more, none, bounds.1);
    }

step_year : (c : Calendar) → c ≢ Swedish → (n y d : ℕ) → Placed c n y 12 d → d ≡ 31
    → Placed c (suc n) (y + 1) 1 1
step_year c months n y d p full =
    let is : chain c (suc n) ≡ date (pos (y + 1)) 1 1 = chain-suc c n ∙ ap (next c) p.is
    ∙ next_year c months (pos y) 12 d (omega arith) (omega arith) in
    let more = before_more 12 (omega arith) in
    record {
      is = is;
      year_low = omega arith;
      month_low = omega arith;
      month_high = omega arith;
      day_low = omega arith;
      day_high = omega arith;
      count = omega (
        arith,
        p.count,
        march_1-suc c y p.year_low,
        length_february c (y + 1),
        ahead_early c (y + 1) 1 (omega arith),
        ahead_late c y 12 (omega arith),
        before_year,
        before_none,
        more,
      );
      letter = ap letter_number (letter_next c n (date (pos (y + 1)) 1 1) is)
          ∙ omega (arith, before_none, mark_day 1 1 (omega arith));
    }

letter_at-zero : (c : Calendar) → letter_at c 0 ≡ first_letter c
unfolding letter_at
letter_at-zero c = refl

leap_first : (c : Calendar) → leap_days c 1 ≡ 0
unfolding leap_days
leap_first Julian = refl
leap_first Gregorian = refl
leap_first Swedish = refl

march_julian : march_1 Julian 1 ≡ 57
unfolding march_1
march_julian = refl

march_gregorian : march_1 Gregorian 1 ≡ 59
unfolding march_1
march_gregorian = refl

first_placed : (c : Calendar) → c ≢ Swedish → (d : ℕ) × Placed c 0 1 1 d
first_placed Julian months = (
  3,
  record {
    is = chain-zero Julian;
    year_low = omega arith;
    month_low = omega arith;
    month_high = omega arith;
    day_low = omega arith;
    day_high = omega arith;
    count = omega (
      arith,
      before_none,
      march_julian,
      leap_first Julian,
      ahead_early Julian 1 1
          (omega arith),
    );
    letter = ap letter_number (letter_at-zero Julian)
        ∙ omega (arith, before_none, mark_day 1 3 (omega arith));
  },
)
first_placed Gregorian months = (
  1,
  record {
    is = chain-zero Gregorian;
    year_low = omega arith;
    month_low = omega arith;
    month_high = omega arith;
    day_low = omega arith;
    day_high = omega arith;
    count = omega (
      arith,
      before_none,
      march_gregorian,
      leap_first Gregorian,
      ahead_early Gregorian
          1 1 (omega arith),
    );
    letter = ap letter_number (letter_at-zero Gregorian)
        ∙ omega (arith, before_none, mark_day 1 1 (omega arith));
  },
)
first_placed Swedish months = absurd (months refl)

abbrev pub IsPlaced : Calendar → ℕ → Type 0
IsPlaced c n = (y : ℕ) × (m : ℕ) × (d : ℕ) × Placed c n y m d

next_placed : (c : Calendar) → c ≢ Swedish → (n : ℕ) → IsPlaced c n → IsPlaced c (suc n)
next_placed c months n s =
    let y = s.0 in let m = s.1 in let d = s.2 in let p = s.3 in
    elim (cases_lt d (month_length c (pos y) m)) [
      | inl lt ↦ (y, m, d + 1, step_day c months n y m d p lt)
      | inr full ↦
          elim (cases_lt m 12) [
            | inl lt ↦ (y, m + 1, 1, step_month c months n y m d p (omega arith) lt)
            | inr last ↦
                let december : m ≡ 12 = omega arith in
                let q = subst (λ (k : ℕ). Placed c n y k d) december p in
                let length = subst (λ (k : ℕ). month_length c (pos y) k ≤ d) december full in
                (y + 1, 1, 1, step_year c months n y d q (omega arith))
          ]
    ]

-- each date of the chain has its place
pub placed : (c : Calendar) → c ≢ Swedish → (n : ℕ) → IsPlaced c n
placed c months zero = let first = first_placed c months in (1, 1, first.0, first.1)
placed c months (suc n) = next_placed c months n (placed c months n)
