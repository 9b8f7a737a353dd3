-- The years of the first rules keep their Easters: the longer line has no other.
use Rattle.std.proofs.Common.{◌≡◌, ◌≢◌, ℕ, ◌+◌, ◌-◌, ◌*◌, ◌%◌, ◌<◌, ◌≤◌}
use Rattle.std.proofs.Common.{Some, sym, ap, ◌∙◌, arith}
use Rattle.osn_days.specs.declared.calendar.Calendar.{Calendar}
use Rattle.osn_days.specs.declared.calendar.Calendar.TheVariants as calendars
use Rattle.osn_days.specs.Rules.{first_rules, newest_rules}
use Rattle.osn_days.specs.Line.{IsYear}
use Rattle.osn_computus.specs.declared.rule.Rule.{Rule}
use Rattle.osn_computus.specs.declared.rule.Rule.TheVariants.{Julian, Gregorian}
use Rattle.osn_computus.specs.Moon.{after_march_1}
use Rattle.osn_computus.specs.Easter.{calendar_of, date_in, day_with, paschal_moon}
use Rattle.osn_computus.specs.Easter.{first_sunday_after, easter_of}
use Rattle.osn_days.proofs.RangeFacts.{find_on_both}
use Rattle.osn_computus.proofs.WalkFacts.{march_1}
use Rattle.osn_computus.proofs.MoonFacts.{of_months, day_with_spring, HasMoonAt, moon_of, moon_is}
use Rattle.osn_computus.proofs.MoonFacts.{sunday_is}

-- 1 March of a year of the first rules is 277 days at least before the end of their line
pub march_1-within : (c : Calendar) (y : ℕ) → IsYear first_rules y
    → march_1 c y + 365 * (first_rules.last_year - y) + 277 ≤ first_rules.high
unfolding march_1
march_1-within calendars.Julian y year = omega (arith, year)
march_1-within calendars.Gregorian y year = omega (arith, year)
march_1-within calendars.Swedish y year = omega (arith, year)

-- a year of the first rules is one of the newest
pub newest_year : (y : ℕ) → IsYear first_rules y → IsYear newest_rules y
newest_year y year = (year.0, omega (arith, year.1))

-- a day of March or April is found by both
same_spring : (c : Calendar) → c ≢ calendars.Swedish → (y n : ℕ) → IsYear first_rules y → n < 61
    → day_with first_rules c (date_in y (after_march_1 n)) ≡ Some (march_1 c y + n + 1)
unfolding day_with
same_spring c months y n year high =
    find_on_both newest_rules first_rules _ (march_1 c y + n + 1)
    (day_with_spring c months y n (newest_year y year) high)
    (omega (arith, march_1-within c y year))

-- the paschal moon of a year of the first rules is one day by both rules
same_moon : (rule : Rule) (y n : ℕ) → IsYear first_rules y → n < 29 → HasMoonAt rule y n
    → paschal_moon first_rules rule y ≡ Some (march_1 (calendar_of rule) y + 21 + n)
unfolding paschal_moon
same_moon Julian y n year low table =
    let c = calendar_of Julian in
    let place : march_1 c y + (20 + n) + 1 ≡ march_1 c y + 21 + n = omega arith in
    rw table (same_spring c (of_months Julian) y (20 + n) year (omega arith) ∙ ap Some place)
same_moon Gregorian y n year low table =
    let c = calendar_of Gregorian in
    let place : march_1 c y + (7 + n) + 1 + 13 ≡ march_1 c y + 21 + n = omega arith in
    rw table (rw (same_spring c (of_months Gregorian) y (7 + n) year (omega arith))
    (ap Some place))

-- the first Sunday after a day
same_sunday : (m : ℕ) → m + 7 ≤ first_rules.high
    → first_sunday_after first_rules m ≡ Some (m + 7 - m % 7)
unfolding first_sunday_after
same_sunday m h =
    find_on_both newest_rules first_rules _ (m + 7 - m % 7) (sunday_is m (omega arith))
    (omega arith)

-- Easter of a year of the first rules, by both versions
pub record EasterOfBoth (rule : Rule) (y : ℕ) : Type 0 where
  pub day : ℕ
  pub newest : easter_of newest_rules rule y ≡ Some day
  pub first : easter_of first_rules rule y ≡ Some day
  pub within : day ≤ first_rules.high

pub easter_of_both : (rule : Rule) (y : ℕ) → IsYear first_rules y → EasterOfBoth rule y
unfolding easter_of
easter_of_both rule y year =
    let moon = moon_of rule y in
    let c = calendar_of rule in
    let day = march_1 c y + 21 + moon.0 in
    let bound = march_1-within c y year in
    let low : day + 7 ≤ first_rules.high = omega (arith, moon.1) in
    record {
      day = day + 7 - day % 7;
      newest =
          rw (moon_is rule y moon.0 (newest_year y year) moon.1 moon.2)
          (sunday_is day (omega arith));
      first = rw (same_moon rule y moon.0 year moon.1 moon.2) (same_sunday day low);
      within = omega arith;
    }

-- both versions have the same Easter for a year of the first rules
pub same_easter : (rule : Rule) (y : ℕ) → IsYear first_rules y
    → easter_of first_rules rule y ≡ easter_of newest_rules rule y
same_easter rule y year = let kept = easter_of_both rule y year in kept.first ∙ sym kept.newest
