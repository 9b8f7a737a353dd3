use Rattle.std.proofs.Common.{◌≡◌, arith, ap, sym, ◌∙◌, ◌+ℤ◌, pos}
use Rattle.std.proofs.lemmas.Bool.{false≢true}
use Rattle.std.specs.Option.{option_to_list}
use Rattle.std.proofs.lemmas.Int.{ints}
use Rattle.jiff_core.specs.Calendar.{IsCivilDate, IsDate}
use Rattle.jiff_core.specs.Date.{epoch_day}
use Rattle.osn_days.specs.Rules.{newest_rules}
use Rattle.osn_days.specs.declared.calendar.Calendar.TheVariants.{Gregorian}
use Rattle.osn_days.proofs.ChainFacts.{gregorian_by_months}
use Rattle.osn_days.proofs.CountFacts.{days_at_count, days_not}
use Rattle.osn_days.proofs.GregorianFacts.{gregorian_count, gregorian_is, gregorian_place}
use Rattle.osn_days.proofs.GregorianFacts.{gregorian_first, gregorian_real, gregorian_last_year}
use Rattle.osn_days.proofs.GregorianFacts.{gregorian_days}
use Rattle.osn_days.proofs.gregorian.day_of.Goals as goal

pub returns-in_err-civil_date : goal.returns-in_err-civil_date
returns-in_err-civil_date c =
    let d = c.args.date in
    ap option_to_list c.from_residual.ensures
    ∙ days_not newest_rules Gregorian d gregorian_by_months (λ n on s same.
    let year = gregorian_last_year d s (omega (arith, gregorian_place d n on.0 same)) in
    let is : IsDate d.year (pos d.month) (pos d.day) = (
      (omega (arith, ints, s.year_low), omega (arith, ints, year)),
      (omega (arith, ints, s.month_low), omega (arith, ints, s.month_high)),
      (omega (arith, ints, s.day_low), omega (arith, ints, s.day_high)),
    ) in
    absurd (false≢true (c.in_err-civil_date.ensures.exists.1 is)))

pub returns : goal.returns
returns c =
    let made = c.in_ok-civil_date.field-0 in
    let d = c.args.date in
    let days = c.days_since_min-days.result in
    let of_made : IsCivilDate made.year made.month made.day =
    (made.year_in, made.month_in, made.day_in) in
    let is = c.in_ok-civil_date.ensures.value in
    let month : made.month ≡ d.month = omega (arith, ints, is.1) in
    let day : made.day ≡ d.day = omega (arith, ints, is.2) in
    let civil = rw (is.0, month, day) at of_made in
    let count = gregorian_days made d days (is.0, month, day)
    (ap (λ x. epoch_day x +ℤ pos 4_371_587) (sym c.to_plain.ensures)
    ∙ c.days_since_min-days.ensures.value) in
    days_at_count newest_rules Gregorian gregorian_count gregorian_is d _
    (λ low. gregorian_real d civil (omega (arith, ints, low, count)))
    (omega (arith, ints, gregorian_first, count)) c.new.result c.new.ensures.on_line
    c.new.ensures.value
