use Rattle.std.proofs.Common.{◌≡◌, ◌-◌, ◌%◌, Some, ap, ◌∙◌, arith}
use Rattle.std.proofs.lemmas.Bool.Decides.{nat_tests}
use Rattle.osn_computus.specs.declared.epact.Epact.{Epact}
use Rattle.osn_computus.specs.Moon.{after_march_1}
use Rattle.osn_computus.proofs.TableFacts.{gregorian_row, gregorian_days}
use Rattle.osn_computus.proofs.moon.gregorian_moon_days.Goals as goal
use Rattle.osn_computus.proofs.moon.gregorian_moon_days.Goals.{then-number-eq24, else-number-eq24}

pub returns-clause-table : goal.returns-clause-table
returns-clause-table c =
    let epact = c.gregorian_epact-number.result in
    let same : gregorian_days epact ≡ (53 - c.from.result) % 30 - c.from-2.result =
    elim c.if-number-eq24.branch [
      | then-number-eq24 w ↦ grind (arith, nat_tests)
      | else-number-eq24 w ↦
          grind (arith, nat_tests)
    ] in
    let table = gregorian_row c.args.year in
    let of_year = ap (λ (e : Epact). gregorian_days e) c.gregorian_epact-number.ensures in
    table.0 ∙ ap (λ n. Some (after_march_1 n)) (omega (arith, same, of_year))
