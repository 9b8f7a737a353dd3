use Rattle.std.proofs.Common.{◌≡◌, ℕ, ◌+◌, ◌<◌, Option, Some, ap, refl, ◌∙◌, arith}
use Rattle.std.proofs.lemmas.Int.{ints}
use Rattle.osn_days.specs.declared.calendar.Calendar.{Calendar}
use Rattle.osn_days.specs.declared.date.Date.{Date}
use Rattle.std.specs.Option.{option_to_list}
use Rattle.osn_days.specs.Rules.{newest_rules}
use Rattle.osn_days.specs.Line.{IsYear}
use Rattle.osn_days.specs.Chain.{days_with_date}
use Rattle.osn_computus.specs.declared.rule.Rule.{Rule}
use Rattle.osn_computus.specs.Moon.{march}
use Rattle.osn_computus.specs.Easter.{calendar_of, date_in}
use Rattle.osn_computus.proofs.WalkFacts.{march_1, march_1-bound}
use Rattle.osn_computus.proofs.MoonFacts.{of_months, HasMoonAt, moon_is, some_same, spring_found}
use Rattle.osn_computus.proofs.moon.paschal_moon.Goals as goal
use Rattle.osn_computus.proofs.moon.paschal_moon.Goals.{in-Julian, in-Gregorian}

march_21_found : (rule : Rule) (y : ℕ) → IsYear newest_rules y
    → (day : Option ℕ) (k : Calendar) (date : Date)
    → option_to_list day ≡ days_with_date newest_rules k date → k ≡ calendar_of rule
    → date ≡ date_in y (march 21)
    → day ≡ Some (march_1 (calendar_of rule) y + 20 + 1)
march_21_found rule y year day k date e same is =
    let found = e ∙ ap (λ (x : Calendar). days_with_date newest_rules x date) same
    ∙ ap (λ (d : Date). days_with_date newest_rules (calendar_of rule) d) is in
    spring_found (calendar_of rule) (of_months rule) y 20 year (omega arith) day found

pub unwrap-march_21-requires : goal.unwrap-march_21-requires
unwrap-march_21-requires c =
    rw (march_21_found c.args.rule c.args.year c.date_in.ensures.in_range c.day_of.result
    c.calendar.result c.date_in.result
    c.day_of.ensures c.calendar.ensures c.date_in.ensures.value) refl

pub on_line-requires : goal.on_line-requires
on_line-requires c =
    let y = c.args.year in
    let k = calendar_of c.args.rule in
    let year = c.date_in.ensures.in_range in
    let bound = march_1-bound k y year.0 year.1 in
    let found = march_21_found c.args.rule y year c.day_of.result c.calendar.result c.date_in.result
    c.day_of.ensures c.calendar.ensures c.date_in.ensures.value in
    let place = some_same c.unwrap-march_21.result _ c.day_of.result c.unwrap-march_21.ensures
    found in
    let days : c.match-rule.days < 29 =
    elim c.match-rule.branch [ in-Julian w ↦ omega arith | in-Gregorian w ↦ omega arith ] in (
      omega (arith, ints, c.from.ensures, c.number.ensures.value, bound, place, days),
      omega (arith, ints, c.from.ensures, c.number.ensures.value, bound, place, days),
    )

pub returns-clause-value : goal.returns-clause-value
returns-clause-value c =
    let y = c.args.year in
    let k = calendar_of c.args.rule in
    let year = c.date_in.ensures.in_range in
    let found = march_21_found c.args.rule y year c.day_of.result c.calendar.result c.date_in.result
    c.day_of.ensures c.calendar.ensures c.date_in.ensures.value in
    let place = some_same c.unwrap-march_21.result _ c.day_of.result c.unwrap-march_21.ensures
    found in
    let days : c.match-rule.days < 29 =
    elim c.match-rule.branch [ in-Julian w ↦ omega arith | in-Gregorian w ↦ omega arith ] in
    let table : HasMoonAt c.args.rule y c.match-rule.days =
    elim c.match-rule.branch [
      | in-Julian w ↦ rw (w.in-Julian.is, w.days-is) w.julian_moon_days-days.ensures.table
      | in-Gregorian w ↦ rw (w.in-Gregorian.is, w.days-is) w.gregorian_moon_days-days.ensures.table
    ] in
    let same : march_1 k y + 21 + c.match-rule.days ≡ c.on_line.result =
    omega (arith, ints, c.on_line.ensures, c.from.ensures, c.number.ensures.value, place) in
    moon_is c.args.rule y c.match-rule.days c.date_in.ensures.in_range days table ∙ ap Some same
