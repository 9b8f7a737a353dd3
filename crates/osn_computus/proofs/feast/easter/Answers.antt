use Rattle.std.proofs.Common.{◌≤◌, ◌∙◌, Some, ap, subst, arith}
use Rattle.osn_days.specs.Rules.{first_rules}
use Rattle.osn_computus.specs.Easter.{easter_of}
use Rattle.osn_computus.proofs.MoonFacts.{moon_bounds, season, some_same}
use Rattle.osn_computus.proofs.EarlierEasters.{easter_of_both}
use Rattle.osn_computus.proofs.feast.easter.Goals as goal

pub sunday_after-requires : goal.sunday_after-requires
sunday_after-requires c =
    let bounds = moon_bounds c.args.rule c.args.year c.paschal_moon.result
    c.paschal_moon.ensures.in_range c.paschal_moon.ensures.value in
    (omega arith, bounds.2)

pub returns-clause-value : goal.returns-clause-value
unfolding easter_of
returns-clause-value c = rw c.paschal_moon.ensures.value c.sunday_after.ensures.value

pub returns-clause-season : goal.returns-clause-season
returns-clause-season c =
    let after = c.sunday_after.ensures.within in
    season c.args.rule c.args.year c.paschal_moon.result _ c.paschal_moon.ensures.in_range
    c.paschal_moon.ensures.value after.0 after.1

pub returns-clause-earlier_rules : goal.returns-clause-earlier_rules
returns-clause-earlier_rules c year =
    let kept = easter_of_both c.args.rule c.args.year year in
    let same = some_same _ _ _ kept.newest (returns-clause-value c) in
    (kept.first ∙ ap Some same, subst (λ d. d ≤ first_rules.high) same kept.within)
