use Rattle.std.proofs.Common.{◌≡◌, ◌+◌, ◌-◌, ◌%◌, Some, ap, ◌∙◌, arith}
use Rattle.std.proofs.lemmas.Int.{ints}
use Rattle.osn_computus.proofs.MoonFacts.{sunday_is}
use Rattle.osn_computus.proofs.feast.sunday_after.Goals as goal

pub returns-clause-value : goal.returns-clause-value
returns-clause-value c =
    let moon = c.args.moon in
    let same : moon + 7 - moon % 7 ≡ c.on_line.result = omega (arith, ints, c.on_line.ensures) in
    sunday_is moon c.requires.1 ∙ ap Some same
