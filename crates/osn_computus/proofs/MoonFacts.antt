-- The days of the paschal moon and of Easter, counted from 1 March of the year.
use Rattle.std.proofs.Common.{◌≡◌, ◌≢◌, ℕ, ◌+◌, ◌-◌, ◌%◌, ◌<◌, ◌≤◌, inl, inr, ◌==◌, ◌&&◌}
use Rattle.std.proofs.Common.{true, nat_lt, Option, None, Some, List, [], ◌∷◌, refl, ap, ◌∙◌}
use Rattle.std.proofs.Common.{arith, pos}
use Rattle.std.proofs.lemmas.Bool.{cases_lt, false_from_ne_true}
use Rattle.std.proofs.lemmas.Bool.Decides.{nat_tests, Decides-and, Decides-eqb, Decides-ltb}
use Rattle.std.proofs.lemmas.Bool.Decides.{Decides-int_eq}
use Rattle.std.specs.Option.{option_to_list}
use Rattle.osn_days.specs.declared.date.Date.{Date}
use Rattle.osn_days.specs.declared.calendar.Calendar.{Calendar}
use Rattle.osn_days.specs.declared.calendar.Calendar.TheVariants.{Swedish}
use Rattle.osn_days.specs.Rules.{newest_rules}
use Rattle.osn_days.specs.Line.{IsDay, IsYear, weekday}
use Rattle.osn_days.specs.Chain.{chain, date_of, same_date, days_with_date}
use Rattle.osn_days.proofs.ChainFacts.{julian_by_months, gregorian_by_months, date_apart, days_one}
use Rattle.osn_days.proofs.RangeFacts.{find_on_line}
use Rattle.osn_computus.specs.declared.rule.Rule.{Rule}
use Rattle.osn_computus.specs.declared.rule.Rule.TheVariants.{Julian, Gregorian}
use Rattle.osn_computus.specs.Figures.{golden_number, gregorian_epact}
use Rattle.osn_computus.specs.Moon.{after_march_1, julian_full_moon, gregorian_new_moon}
use Rattle.osn_computus.specs.Easter.{calendar_of, date_in, day_with, paschal_moon}
use Rattle.osn_computus.specs.Easter.{first_sunday_after, IsEasterDate}
use Rattle.osn_computus.proofs.WalkFacts.{date, lt_test, ge_test, on_in_month, to_next_month}
use Rattle.osn_computus.proofs.WalkFacts.{march_1, march_on_chain, march_1-bound}
use Rattle.osn_computus.proofs.TableFacts.{julian_days, julian_row, gregorian_days, gregorian_row}

-- both rules' calendars follow the lengths of the months
pub of_months : (rule : Rule) → calendar_of rule ≢ Swedish
of_months Julian = julian_by_months
of_months Gregorian = gregorian_by_months

pub march_at : (c : Calendar) → c ≢ Swedish → (y : ℕ) → 1 ≤ y
    → chain c (march_1 c y) ≡ date (pos y) 3 1
march_at c months y low = let more : y ≡ y - 1 + 1 = omega arith in
    rw more (march_on_chain c months (y - 1))

-- the days of March and April are on the chain
pub spring : (c : Calendar) → c ≢ Swedish → (y n : ℕ) → 1 ≤ y → n < 61
    → chain c (march_1 c y + n) ≡ date_in y (after_march_1 n)
spring c months y n low high =
    elim (cases_lt n 31) [
      | inl early ↦ grind (
        arith,
        nat_tests,
        on_in_month c months (pos y) 3 1 (march_1 c y) n
            (march_at c months y low) (omega arith),
      )
      | inr late ↦
          let april = to_next_month c months (pos y) 3 1 (march_1 c y) (march_1 c y + 31)
          (march_at c months y low) (omega arith) (omega arith) (omega arith) in
          let here = on_in_month c months (pos y) 4 1 (march_1 c y + 31) (n - 31) april
          (omega arith) in
          grind (arith, nat_tests)
    ]

-- the days of March and April in years that have figures are on the line
pub spring_on_line : (c : Calendar) (y n : ℕ) → IsYear newest_rules y → n < 61
    → IsDay newest_rules (march_1 c y + n + 1)
spring_on_line c y n year high =
    let bound = march_1-bound c y year.0 year.1 in (omega arith, omega arith)

pub spring_date : (c : Calendar) → c ≢ Swedish → (y n : ℕ) → 1 ≤ y → n < 61
    → date_of c (march_1 c y + n + 1) ≡ date_in y (after_march_1 n)
spring_date c months y n low high =
    let place : march_1 c y + n + 1 - 1 ≡ march_1 c y + n = omega arith in
    rw place (spring c months y n low high)

same_date_self : (d : Date) → same_date d d ≡ true
same_date_self d =
    (Decides-and _ _ (Decides-int_eq d.year d.year)
    (Decides-and _ _ (Decides-eqb d.month d.month) (Decides-eqb d.day d.day))).1
    (refl, (refl, refl))

spring_same : (c : Calendar) → c ≢ Swedish → (y n : ℕ) → 1 ≤ y → n < 61
    → same_date (date_of c (march_1 c y + n + 1)) (date_in y (after_march_1 n)) ≡ true
spring_same c months y n low high =
    ap (λ (d : Date). same_date d (date_in y (after_march_1 n))) (spring_date c months y n low high)
    ∙ same_date_self (date_in y (after_march_1 n))

-- the day with a date of March or April
pub day_with_spring : (c : Calendar) → c ≢ Swedish → (y n : ℕ) → IsYear newest_rules y → n < 61
    → day_with newest_rules c (date_in y (after_march_1 n)) ≡ Some (march_1 c y + n + 1)
unfolding day_with
day_with_spring c months y n year high =
    let is = spring_same c months y n year.0 high in
    find_on_line newest_rules (λ d. same_date (date_of c d) (date_in y (after_march_1 n)))
    (march_1 c y + n + 1) (spring_on_line c y n year high) is
    (λ e low before. date_apart c _ (march_1 c y + n + 1) e (omega arith) low is (inl before))

-- as the search through all days has it
pub days_with_spring : (c : Calendar) → c ≢ Swedish → (y n : ℕ) → IsYear newest_rules y → n < 61
    → days_with_date newest_rules c (date_in y (after_march_1 n)) ≡ (march_1 c y + n + 1) ∷ []
days_with_spring c months y n year high =
    days_one newest_rules c _ (march_1 c y + n + 1) (spring_on_line c y n year high)
    (spring_same c months y n year.0 high)

-- the rule's table has the moon of the year that many days after 21 March
abbrev pub HasMoonAt : Rule → ℕ → ℕ → Type 0
HasMoonAt Julian y n = julian_full_moon (golden_number y) ≡ Some (after_march_1 (20 + n))
HasMoonAt Gregorian y n = gregorian_new_moon (gregorian_epact y) ≡ Some (after_march_1 (7 + n))

-- the rule's table has the moon of each year within 28 days after 21 March
pub moon_of : (rule : Rule) (y : ℕ) → (n : ℕ) × (n < 29) × HasMoonAt rule y n
moon_of Julian y = let table = julian_row y in (julian_days (y % 19), table.1, table.0)
moon_of Gregorian y =
    let table = gregorian_row y in (gregorian_days (gregorian_epact y), table.1, table.0)

-- the moon is on the line, as many days after 21 March as the table says
pub moon_is : (rule : Rule) (y n : ℕ) → IsYear newest_rules y → n < 29 → HasMoonAt rule y n
    → paschal_moon newest_rules rule y ≡ Some (march_1 (calendar_of rule) y + 21 + n)
unfolding paschal_moon
moon_is Julian y n year low table =
    let c = calendar_of Julian in
    let place : march_1 c y + (20 + n) + 1 ≡ march_1 c y + 21 + n = omega arith in
    rw table (day_with_spring c (of_months Julian) y (20 + n) year (omega arith) ∙ ap Some place)
moon_is Gregorian y n year low table =
    let c = calendar_of Gregorian in
    let place : march_1 c y + (7 + n) + 1 + 13 ≡ march_1 c y + 21 + n = omega arith in
    rw table (rw (day_with_spring c (of_months Gregorian) y (7 + n) year (omega arith))
    (ap Some place))

pub some_same : (a b : ℕ) (o : Option ℕ) → o ≡ Some a → o ≡ Some b → a ≡ b
some_same a b o p q = cc

-- the moon is on 18 April or earlier, well before the end of the line
pub moon_bounds : (rule : Rule) (y moon : ℕ) → IsYear newest_rules y
    → paschal_moon newest_rules rule y ≡ Some moon
    → (march_1 (calendar_of rule) y + 21 ≤ moon) × (moon < march_1 (calendar_of rule) y + 50) ×
    (moon + 7 ≤ newest_rules.high)
moon_bounds rule y moon year is =
    let found = moon_of rule y in
    let same = some_same moon _ (paschal_moon newest_rules rule y) is
    (moon_is rule y found.0 year found.1 found.2) in
    let bound = march_1-bound (calendar_of rule) y year.0 year.1 in
    (omega (arith, found.1), omega (arith, found.1), omega (arith, found.1))

in_season : (y n : ℕ) → 21 ≤ n → n ≤ 55 → IsEasterDate y (date_in y (after_march_1 n))
in_season y n low high =
    elim (cases_lt n 31) [
      | inl early ↦ rw (lt_test n 31 early) (record {
        in_year = refl;
        in_season = inl (refl, omega arith);
      })
      | inr late ↦ rw (ge_test n 31 late) (record {
        in_year = refl;
        in_season = inr (refl, omega arith);
      })
    ]

-- a day one to seven days after it is from 22 March to 25 April
pub season : (rule : Rule) (y moon d : ℕ) → IsYear newest_rules y
    → paschal_moon newest_rules rule y ≡ Some moon → moon < d → d ≤ moon + 7
    → IsEasterDate y (date_of (calendar_of rule) d)
season rule y moon d year is after within =
    let bounds = moon_bounds rule y moon year is in
    let c = calendar_of rule in
    let n = d - march_1 c y - 1 in
    let place : d ≡ march_1 c y + n + 1 = omega (arith, bounds.0) in
    let low : 21 ≤ n = omega (arith, bounds.0) in
    let high : n ≤ 55 = omega (arith, bounds.1) in
    rw place (rw (spring_date c (of_months rule) y n year.0 (omega arith)) (in_season y n low high))

-- the first Sunday after a day
pub sunday_is : (m : ℕ) → m + 7 ≤ newest_rules.high
    → first_sunday_after newest_rules m ≡ Some (m + 7 - m % 7)
unfolding first_sunday_after
sunday_is m h =
    find_on_line newest_rules (λ d. nat_lt m d && (weekday d == 0)) (m + 7 - m % 7)
    (omega arith, omega arith)
    ((Decides-and _ _ (Decides-ltb m (m + 7 - m % 7)) (Decides-eqb (weekday (m + 7 - m % 7)) 0)).1
    (omega arith, omega arith))
    (λ e low before. false_from_ne_true _
    (λ is. let parts = (Decides-and _ _ (Decides-ltb m e) (Decides-eqb (weekday e) 0)).0 is in
    omega (arith, parts.0, parts.1)))

-- what is the one day of a list
pub one_of : (day : Option ℕ) (n : ℕ) (days : List ℕ) → option_to_list day ≡ days → days ≡ n ∷ []
    → day ≡ Some n
one_of None n days e is = let clash : [] ≡ n ∷ [] = e ∙ is in absurd cc
one_of (Some d) n days e is = let same : d ∷ [] ≡ n ∷ [] = e
    ∙ is in let here : d ≡ n = cc in ap Some here

-- a search for a day of March or April finds it
pub spring_found : (c : Calendar) → c ≢ Swedish → (y n : ℕ) → IsYear newest_rules y → n < 61
    → (day : Option ℕ) → option_to_list day
    ≡ days_with_date newest_rules c (date_in y (after_march_1 n))
    → day ≡ Some (march_1 c y + n + 1)
spring_found c months y n year high day e =
    one_of day _ _ e (days_with_spring c months y n year high)
