use Rattle.std.proofs.Common.{◌≡◌, ◌+◌, ◌-◌, ◌*◌, ◌/◌, ◌%◌, sym, arith, pos, ◌+ℤ◌, to_z, of_z, w32}
use Rattle.std.proofs.lemmas.Bool.Decides.{nat_tests}
use Rattle.std.proofs.lemmas.Int.{ints}
use Rattle.jiff_core.proofs.MarchLemmas.{month_and_day}
use Rattle.osn_days.specs.declared.date.Date.{Date}
use Rattle.osn_days.specs.declared.calendar.Calendar.TheVariants.{Julian}
use Rattle.osn_days.proofs.CountFacts.{IsReal, is_real, date_of_count}
use Rattle.osn_days.proofs.JulianFacts.{julian_count, julian_is, julian_count-late}
use Rattle.osn_days.proofs.JulianFacts.{julian_count-early, late_day, early_day}
use Rattle.osn_days.proofs.julian.date_of.Goals as goal

pub returns-then-month-gt12-clause-value : goal.returns-then-month-gt12-clause-value
returns-then-month-gt12-clause-value c =
    let days = 4 * (c.number.result + 308) - 1 in
    let y = days / 1461 in
    let n = days % 1461 / 4 in
    let day = month_and_day n (omega arith) in
    let in_month = early_day (y + 1) n (omega arith) (grind (arith, nat_tests)) in
    let d : Date = record {
      year = pos (y + 1);
      month = (5 * n + 2) / 153 + 3 - 12;
      day = (5 * n + 2) % 153 / 5 + 1;
    } in
    let s : IsReal Julian d = is_real _ _ (omega (arith, ints)) (omega arith) (omega arith)
    (omega arith) in_month in
    let year : to_z w32 (of_z w32 (to_z w32 y +ℤ pos 1)) ≡ pos (y + 1) = omega (arith, ints) in
    rw year (sym (date_of_count Julian julian_count julian_is d c.args.day s (omega arith)
    (omega (arith, julian_count-early d (omega arith)))))

pub returns-else-month-gt12-clause-value : goal.returns-else-month-gt12-clause-value
returns-else-month-gt12-clause-value c =
    let days = 4 * (c.number.result + 308) - 1 in
    let y = days / 1461 in
    let n = days % 1461 / 4 in
    let day = month_and_day n (omega arith) in
    let d : Date = record {
      year = pos y;
      month = (5 * n + 2) / 153 + 3;
      day = (5 * n + 2) % 153 / 5 + 1;
    } in
    let s : IsReal Julian d = is_real _ _ (omega (arith, ints)) (omega arith) (omega arith)
    (omega arith) (late_day (pos y) n (omega arith)) in
    let year : to_z w32 y ≡ pos y = omega (arith, ints) in
    rw year (sym (date_of_count Julian julian_count julian_is d c.args.day s (omega arith)
    (omega (arith, julian_count-late d (omega arith)))))
