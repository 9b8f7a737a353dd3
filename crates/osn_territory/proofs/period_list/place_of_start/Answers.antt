use Rattle.std.proofs.Common.{get_or, arith}
use Rattle.std.proofs.lemmas.List.{get_or_default}
use Rattle.osn_days.specs.Rules.{newest_rules}
use Rattle.osn_territory.proofs.ChangeFacts.{found_on_start, later_place}
use Rattle.osn_territory.proofs.period_list.place_of_start.Goals as goal

pub returns-clause-starts : goal.returns-clause-starts
returns-clause-starts c p =
    let ps = c.args.periods.now in
    let i = c.find_period.result.0 in
    let found = c.find_period.ensures in
    let q = get_or ps i p in
    found_on_start ps i newest_rules.high c.args.day q c.requires.covers found.within found.holds
    (get_or_default ps i p q found.within) c.requires.start

pub returns-clause-later : goal.returns-clause-later
returns-clause-later c later =
    let found = c.find_period.ensures in
    later_place c.args.periods.now c.find_period.result.0 newest_rules.high c.args.day
    c.requires.covers (omega (arith, found.within)) (returns-clause-starts c) later
