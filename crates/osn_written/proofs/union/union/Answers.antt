use Rattle.std.proofs.Common.{◌≡◌, ◌∙◌, sym, subst}
use Rattle.std.specs.List.Sorted.{IsNonDecreasingBy, IsPermutation}
use Rattle.osn_days.specs.Rules.{newest_rules}
use Rattle.osn_territory.specs.Runs.{days_in}
use Rattle.osn_written.specs.Runs.{HaveDays}
use Rattle.osn_written.specs.Union.{rest_from}
use Rattle.osn_written.proofs.UnionFacts.{joined_is, rest_has_days, union_is}
use Rattle.osn_written.proofs.union.union.Goals as goal

pub join_runs-requires : goal.join_runs-requires
join_runs-requires c =
    subst HaveDays (sym (c.as_slice-2.ensures.value ∙ c.in_ok-rest.ensures.value))
    (rest_has_days 1 c.as_slice.result.now)

pub returns : goal.returns
returns c =
    let sorted = c.as_slice.result.now in
    let rest = c.as_slice-2.result.now in
    let same : sorted ≡ c.sort_by_first.new.runs.items = c.as_slice.ensures.value in
    let is : rest ≡ rest_from 1 sorted = c.as_slice-2.ensures.value ∙ c.in_ok-rest.ensures.value in
    joined_is newest_rules c.args.runs.items (days_in rest) c.join_runs.result
    (union_is newest_rules c.args.runs.items sorted rest
    (subst (IsPermutation c.args.runs.items) (sym same) c.sort_by_first.ensures.same)
    (subst (IsNonDecreasingBy (λ run. run.first)) (sym same) c.in_ok-sort_by_first.ensures.sorted)
    c.in_ok-rest.ensures.within is)
    c.join_runs.ensures
