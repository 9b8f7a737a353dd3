use Rattle.std.proofs.Common.{◌≡◌, inl, inr, ap, ◌∙◌, arith, ℤ, pos}
use Rattle.std.proofs.lemmas.Int.{ints}
use Rattle.std.proofs.lemmas.Bool.{false≢true}
use Rattle.std.specs.Option.{option_to_list}
use Rattle.osn_days.specs.Rules.{newest_rules}
use Rattle.osn_days.specs.declared.calendar.Calendar.TheVariants.{Julian}
use Rattle.osn_days.specs.Chain.{month_length}
use Rattle.osn_days.proofs.ChainFacts.{julian_by_months}
use Rattle.osn_days.proofs.CountFacts.{IsReal, is_real, days_at_count, days_not}
use Rattle.osn_days.proofs.JulianFacts.{julian_count, julian_is, julian_place, julian_last_year}
use Rattle.osn_days.proofs.JulianFacts.{julian_count-late, julian_count-early}
use Rattle.osn_days.proofs.julian.day_of.Goals as goal
use Rattle.osn_days.proofs.julian.day_of.Goals.{then-date-gt2, else-date-gt2}

pub returns-in_err-year : goal.returns-in_err-year
returns-in_err-year c =
    let d = c.args.date in
    ap option_to_list c.from_residual.ensures
    ∙ days_not newest_rules Julian d julian_by_months (λ n on s same.
    let high = julian_last_year d s (omega (arith, julian_place d n on.0 same)) in
    absurd (false≢true (c.in_err-year.ensures.in_range.1
    (omega (arith, ints, s.year_low), omega (arith, ints, high)))))

pub returns-then-date-lt1 : goal.returns-then-date-lt1
returns-then-date-lt1 c = days_not newest_rules Julian c.args.date julian_by_months (λ n on s same.
    elim c.then-date-lt1.either [
      | inl low ↦ absurd (omega (arith, low, s.month_low))
      | inr high ↦ absurd (omega (arith, high, s.month_high))
    ])

pub returns-then-date-lt1-2 : goal.returns-then-date-lt1-2
returns-then-date-lt1-2 c = days_not newest_rules Julian c.args.date julian_by_months
    (λ n on s same.
    elim c.then-date-lt1-2.branch [
      | goal.then-date-lt1-2-via-then-date-lt1-2 w ↦ absurd (omega (arith, s.day_low))
      | goal.then-date-lt1-2-via-else-date-lt1-2+then-date-month_length w ↦
          let year : pos c.in_ok-year.year ≡ c.args.date.year =
          omega (arith, ints, c.in_ok-year.ensures.value) in
          let length = w.month_length.ensures
          ∙ ap (λ (y : ℤ). month_length Julian y c.args.date.month) year in
          absurd (omega (arith, s.day_high, length))
    ])

pub returns : goal.returns
returns c =
    let d = c.args.date in
    let year : pos c.in_ok-year.year ≡ d.year = omega (arith, ints, c.in_ok-year.ensures.value) in
    let length = c.month_length.ensures ∙ ap (λ (y : ℤ). month_length Julian y d.month) year in
    let s : IsReal Julian d = is_real _ _ (omega (arith, ints)) (omega arith) (omega arith)
    (omega arith) (omega arith) in
    days_at_count newest_rules Julian julian_count julian_is d _ (λ low. s)
    (elim c.if-date-gt2.branch [
      | then-date-gt2 w ↦ let count = julian_count-late d (omega arith) in grind (arith, ints)
      | else-date-gt2 w ↦ let count = julian_count-early d (omega arith) in grind (arith, ints)
    ])
    c.new-2.result c.new-2.ensures.on_line c.new-2.ensures.value
