use Rattle.std.proofs.Common.{get_or}
use Rattle.std.proofs.lemmas.List.{get_or_default}
use Rattle.osn_days.specs.Rules.{newest_rules}
use Rattle.osn_territory.proofs.ChangeFacts.{found_apart}
use Rattle.osn_territory.proofs.period_list.place_to_split.Goals as goal

pub returns-clause-holds : goal.returns-clause-holds
returns-clause-holds c p =
    let ps = c.args.periods.now in
    let i = c.find_period.result.0 in
    let found = c.find_period.ensures in
    let q = get_or ps i p in (
      found_apart ps i newest_rules.high c.args.day q c.requires.covers found.within found.holds
          (get_or_default ps i p q found.within) c.requires.apart,
      (found.holds p).1,
    )
