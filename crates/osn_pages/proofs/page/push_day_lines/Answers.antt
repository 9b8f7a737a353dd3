use Rattle.std.proofs.Common.{string_bytes, rules}
use Rattle.std.proofs.lemmas.Result.{on_ok_weaker}
use Rattle.osn_days.specs.Rules.{newest_rules}
use Rattle.osn_territory.specs.Territory.{periods_of}
use Rattle.osn_register.proofs.CoverFacts.{period_on-place}
use Rattle.osn_pages.proofs.PeriodFacts.{day_and_period}
use Rattle.osn_pages.proofs.page.push_day_lines.Goals as goal

pub returns : goal.returns
returns c =
    let period = c.index-periods-place.result in
    let held = period_on-place (periods_of newest_rules c.args.territory.now)
    c.periods.result.now c.period_at-place.result.0 1 newest_rules.high c.args.day period
    c.periods.ensures.value c.periods.ensures.whole c.period_at-place.ensures.within
    c.period_at-place.ensures.holds c.index-periods-place.is in
    on_ok_weaker c.push_period.result (day_and_period c.args.territory.now c.args.sources.now
    c.args.day c.args.weekday period (string_bytes c.args.out.now)
    (string_bytes c.push_named_day.new.out)
    (string_bytes c.push_period.new.out) held (search rules)) c.push_period.ensures
