-- Walks along a chain: through a month, to the next month, and from one 1 March to the next, in a
-- calendar that follows the lengths of the months.
use Rattle.std.proofs.Common.{◌≡◌, ◌≢◌, ℕ, zero, suc, ◌+◌, ◌-◌, ◌*◌, ◌/◌, ◌<◌, ◌≤◌, true, false}
use Rattle.std.proofs.Common.{nat_lt, refl, ap, ◌∙◌, arith, ℤ, pos, ◌+ℤ◌}
use Rattle.std.proofs.lemmas.Bool.Decides.{nat_tests}
use Rattle.osn_days.specs.declared.date.Date.{Date}
use Rattle.osn_days.specs.Rules.{newest_rules}
use Rattle.osn_days.specs.declared.calendar.Calendar.{Calendar}
use Rattle.osn_days.specs.declared.calendar.Calendar.TheVariants.{Julian, Gregorian, Swedish}
use Rattle.osn_days.specs.Chain.{month_length, next, chain}
use Rattle.osn_days.proofs.ChainFacts.{chain-zero, chain-suc, next_is}

abbrev pub date : ℤ → ℕ → ℕ → Date
date y m d = record { year = y; month = m; day = d }

pub lt_test : (m n : ℕ) → m < n → nat_lt m n ≡ true
lt_test m n h = grind (arith, nat_tests)

pub ge_test : (m n : ℕ) → n ≤ m → nat_lt m n ≡ false
ge_test m n h = grind (arith, nat_tests)

pub next_day : (c : Calendar) → c ≢ Swedish → (y : ℤ) (m d : ℕ) → d < month_length c y m
    → next c (date y m d) ≡ date y m (d + 1)
next_day c months y m d h =
    rw (next_is c (date y m d) months) (rw (lt_test d (month_length c y m) h) refl)

pub next_month : (c : Calendar) → c ≢ Swedish → (y : ℤ) (m d : ℕ) → month_length c y m ≤ d → m < 12
    → next c (date y m d) ≡ date y (m + 1) 1
next_month c months y m d h k =
    rw (next_is c (date y m d) months)
    (rw (ge_test d (month_length c y m) h) (rw (lt_test m 12 k) refl))

pub next_year : (c : Calendar) → c ≢ Swedish → (y : ℤ) (m d : ℕ) → month_length c y m ≤ d → 12 ≤ m
    → next c (date y m d) ≡ date (y +ℤ pos 1) 1 1
next_year c months y m d h k =
    rw (next_is c (date y m d) months)
    (rw (ge_test d (month_length c y m) h) (rw (ge_test m 12 k) refl))

-- k days on in one month
pub on_in_month : (c : Calendar) → c ≢ Swedish → (y : ℤ) (m d n k : ℕ) → chain c n ≡ date y m d
    → d + k ≤ month_length c y m → chain c (n + k) ≡ date y m (d + k)
on_in_month c months y m d n zero at h =
    let here : n + 0 ≡ n = omega arith in let same : d + 0 ≡ d = omega arith in rw (here, same) at
on_in_month c months y m d n (suc k) at h =
    let more : n + suc k ≡ suc (n + k) = omega arith in
    let day : d + suc k ≡ d + k + 1 = omega arith in
    rw (more, day) (chain-suc c (n + k)
    ∙ ap (next c) (on_in_month c months y m d n k at (omega arith))
    ∙ next_day c months y m (d + k) (omega arith))

-- from a day to the first of the next month
pub to_next_month : (c : Calendar) → c ≢ Swedish → (y : ℤ) (m d n e : ℕ) → chain c n ≡ date y m d
    → m < 12 → d ≤ month_length c y m → e + d ≡ n + month_length c y m + 1
    → chain c e ≡ date y (m + 1) 1
to_next_month c months y m d n e at k low is =
    let last = on_in_month c months y m d n (month_length c y m - d) at (omega arith) in
    let place : e ≡ suc (n + (month_length c y m - d)) = omega arith in
    rw place (chain-suc c _ ∙ ap (next c) last ∙ next_month c months y m _ (omega arith) k)

-- from December to 1 January
pub to_next_year : (c : Calendar) → c ≢ Swedish → (y : ℤ) (d n e : ℕ) → chain c n ≡ date y 12 d
    → d ≤ 31 → e + d ≡ n + 32 → chain c e ≡ date (y +ℤ pos 1) 1 1
to_next_year c months y d n e at low is =
    let last = on_in_month c months y 12 d n (31 - d) at (omega arith) in
    let place : e ≡ suc (n + (31 - d)) = omega arith in
    rw place (chain-suc c _ ∙ ap (next c) last
    ∙ next_year c months y 12 _ (omega arith) (omega arith))

-- from 1 January to 1 March
pub to_march : (c : Calendar) → c ≢ Swedish → (y : ℤ) (n : ℕ) → chain c n ≡ date y 1 1
    → chain c (n + 31 + month_length c y 2) ≡ date y 3 1
to_march c months y n at =
    let february = to_next_month c months y 1 1 n (n + 31) at (omega arith) (omega arith)
    (omega arith) in
    to_next_month c months y 2 1 (n + 31) (n + 31 + month_length c y 2) february (omega arith)
    (grind arith) (omega arith)

-- from 1 March to 1 January
march_to_january : (c : Calendar) → c ≢ Swedish → (y : ℤ) (n : ℕ) → chain c n ≡ date y 3 1
    → chain c (n + 306) ≡ date (y +ℤ pos 1) 1 1
march_to_january c months y n at =
    let april = to_next_month c months y 3 1 n (n + 31) at (omega arith) (omega arith)
    (omega arith) in
    let may = to_next_month c months y 4 1 (n + 31) (n + 61) april (omega arith) (omega arith)
    (omega arith) in
    let june = to_next_month c months y 5 1 (n + 61) (n + 92) may (omega arith) (omega arith)
    (omega arith) in
    let july = to_next_month c months y 6 1 (n + 92) (n + 122) june (omega arith) (omega arith)
    (omega arith) in
    let august = to_next_month c months y 7 1 (n + 122) (n + 153) july (omega arith) (omega arith)
    (omega arith) in
    let september = to_next_month c months y 8 1 (n + 153) (n + 184) august (omega arith)
    (omega arith) (omega arith) in
    let october = to_next_month c months y 9 1 (n + 184) (n + 214) september (omega arith)
    (omega arith) (omega arith) in
    let november = to_next_month c months y 10 1 (n + 214) (n + 245) october (omega arith)
    (omega arith) (omega arith) in
    let december = to_next_month c months y 11 1 (n + 245) (n + 275) november (omega arith)
    (omega arith) (omega arith) in
    to_next_year c months y 1 (n + 275) (n + 306) december (omega arith) (omega arith)

-- from 1 March to the next
march_to_march : (c : Calendar) → c ≢ Swedish → (y : ℤ) (n : ℕ) → chain c n ≡ date y 3 1
    → chain c (n + 337 + month_length c (y +ℤ pos 1) 2) ≡ date (y +ℤ pos 1) 3 1
march_to_march c months y n at =
    let place : n + 337 + month_length c (y +ℤ pos 1) 2 ≡ n + 306 + 31 + month_length c (y +ℤ pos 1)
    2 = omega arith in
    rw place (to_march c months (y +ℤ pos 1) (n + 306) (march_to_january c months y n at))

-- the days from day 1 to 1 March of a year. The Swedish calendar has it as if it were the Julian:
-- nothing is said of it
unfoldable pub march_1 : Calendar → ℕ → ℕ
march_1 Julian y = 365 * y + y / 4 - 308
march_1 Gregorian y = 365 * y + y / 4 + y / 400 - y / 100 - 306
march_1 Swedish y = 365 * y + y / 4 - 308

-- it grows by the days of a year
pub march_1-suc : (c : Calendar) (y : ℕ) → 1 ≤ y
    → march_1 c (y + 1) ≡ march_1 c y + 337 + month_length c (pos (y + 1)) 2
unfolding march_1
march_1-suc Julian y low = grind (arith, nat_tests)
march_1-suc Gregorian y low = grind (arith, nat_tests)
march_1-suc Swedish y low = grind (arith, nat_tests)

first_march : (c : Calendar) → c ≢ Swedish → chain c (march_1 c 1) ≡ date (pos 1) 3 1
unfolding march_1
first_march Julian months =
    let february = to_next_month Julian months (pos 1) 1 3 0 29 (chain-zero Julian) (omega arith)
    (omega arith) (omega arith) in
    to_next_month Julian months (pos 1) 2 1 29 57 february (omega arith) (omega arith) (omega arith)
first_march Gregorian months = to_march Gregorian months (pos 1) 0 (chain-zero Gregorian)
first_march Swedish months = absurd (months refl)

-- 1 March of each year is on the chain
pub march_on_chain : (c : Calendar) → c ≢ Swedish → (y : ℕ)
    → chain c (march_1 c (y + 1)) ≡ date (pos (y + 1)) 3 1
march_on_chain c months zero = first_march c months
march_on_chain c months (suc y) =
    let more : suc y + 1 ≡ y + 1 + 1 = omega arith in
    rw more (rw (march_1-suc c (y + 1) (omega arith))
    (march_to_march c months (pos (y + 1)) (march_1 c (y + 1)) (march_on_chain c months y)))

-- 1 March of each year that has figures is 232 days at least before the last day of the line
pub march_1-bound : (c : Calendar) (y : ℕ) → 1 ≤ y → y ≤ newest_rules.last_year
    → (57 ≤ march_1 c y) × (march_1 c y + 365 * (newest_rules.last_year - y) + 233
    ≤ newest_rules.high)
unfolding march_1
march_1-bound Julian y low high = (omega arith, omega arith)
march_1-bound Gregorian y low high = (omega arith, omega arith)
march_1-bound Swedish y low high = (omega arith, omega arith)

-- 8 January of each year is on the line
pub january_8 : (c : Calendar) → c ≢ Swedish → (y : ℕ) → y < newest_rules.last_year
    → (n : ℕ) × (chain c n ≡ date (pos (y + 1)) 1 8) × (n + 15 < newest_rules.high)
january_8 Julian months zero low =
    (5, on_in_month Julian months (pos 1) 1 3 0 5 (chain-zero Julian) (omega arith), omega arith)
january_8 Gregorian months zero low = (
  7,
  on_in_month Gregorian months (pos 1) 1 1 0 7 (chain-zero Gregorian) (omega arith),
  omega
      arith,
)
january_8 Swedish months zero low = absurd (months refl)
january_8 c months (suc y) low =
    let first = march_to_january c months (pos (y + 1)) (march_1 c (y + 1))
    (march_on_chain c months y) in
    let more : suc y + 1 ≡ y + 1 + 1 = omega arith in
    let bound = march_1-bound c (y + 1) (omega arith) (omega arith) in (
      march_1 c (y + 1) + 306 + 7,
      rw more
          (on_in_month c months (pos (y + 1 + 1)) 1 1 (march_1 c (y + 1) + 306) 7 first
          (omega arith)),
      omega (arith, bound.1),
    )
