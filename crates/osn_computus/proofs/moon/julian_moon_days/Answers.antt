use Rattle.std.proofs.Common.{◌≡◌, ◌+◌, ◌-◌, ◌*◌, ◌%◌, Some, ap, ◌∙◌, arith}
use Rattle.osn_computus.specs.Moon.{after_march_1}
use Rattle.osn_computus.proofs.TableFacts.{julian_row, julian_days}
use Rattle.osn_computus.proofs.moon.julian_moon_days.Goals as goal

pub returns-clause-table : goal.returns-clause-table
returns-clause-table c =
    let year = c.args.year in
    let golden = c.from-golden.result in
    let same : 20 + julian_days (year % 19) ≡ 20 + (15 + 19 * (golden - 1)) % 30 =
    omega (arith, c.from-golden.ensures, c.golden_number.ensures.value) in
    (julian_row year).0 ∙ ap (λ n. Some (after_march_1 n)) same
