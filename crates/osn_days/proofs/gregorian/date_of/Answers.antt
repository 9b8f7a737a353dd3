use Rattle.std.proofs.Common.{◌≡◌, ◌+◌, sym, ap, arith, to_z, of_z, w32}
use Rattle.std.proofs.lemmas.Int.{ints}
use Rattle.jiff_core.proofs.SignedLemmas.{signed_arith}
use Rattle.jiff_core.proofs.CalendarLemmas.{days_from_civil-day_count}
use Rattle.osn_days.specs.declared.date.Date.{Date}
use Rattle.osn_days.specs.declared.calendar.Calendar.TheVariants.{Gregorian}
use Rattle.osn_days.proofs.CountFacts.{date_of_count}
use Rattle.osn_days.proofs.GregorianFacts.{gregorian_count, gregorian_is, gregorian_first}
use Rattle.osn_days.proofs.GregorianFacts.{gregorian_real}
use Rattle.osn_days.proofs.LineFacts.{year_of_line}
use Rattle.osn_days.proofs.gregorian.date_of.Goals as goal

pub returns-clause-value : goal.returns-clause-value
returns-clause-value c =
    let r = c.from_days_since_min-date.result in
    let d : Date = record { year = r.year; month = r.month; day = r.day } in
    let count : gregorian_count d ≡ c.number.result + 3_652_790 =
    omega (arith, signed_arith, days_from_civil-day_count r.year r.month r.day) in
    let s = gregorian_real d (r.year_in, r.month_in, r.day_in) (omega arith) in
    let year : to_z w32 (of_z w32 c.from.result) ≡ r.year = omega (arith, ints, c.from.ensures) in
    rw year (sym (date_of_count Gregorian gregorian_count gregorian_is d c.args.day s (omega arith)
    (omega (arith, gregorian_first))))

pub returns-clause-year : goal.returns-clause-year
returns-clause-year c =
    rw (ap (λ (d : Date). d.year) (returns-clause-value c))
    (year_of_line Gregorian c.args.day (omega arith, omega arith))
