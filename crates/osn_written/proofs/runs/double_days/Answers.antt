use Rattle.std.proofs.Common.{◌≡◌, ◌∙◌, ◌++◌, ◌+ℤ◌, ap, filter, ℕ, Bool, List, ℤ}
use Rattle.std.proofs.Common.{pos, to_z, of_z, w32, rules}
use Rattle.osn_days.specs.Rules.{newest_rules}
use Rattle.osn_territory.specs.Dating.{dated_on}
use Rattle.osn_written.specs.Runs as spec
use Rattle.osn_written.proofs.OrderFacts.{double_in_order}
use Rattle.osn_written.proofs.runs.double_days.Goals as goal

pub returns : goal.returns
returns c =
    let t = c.args.territory.now in
    let date = c.args.date in
    let h : ℕ → Bool = λ d. spec.is_meant_double date (dated_on newest_rules t d) in
    let y : ℤ = to_z w32 (of_z w32 c.from-year.result) in
    let z : ℤ = to_z w32 (of_z w32 (y +ℤ pos 1)) in
    let one : c.push_meant_of_year.new.days.items
    ≡ c.new-days.result.items ++ filter h (spec.all_labelled newest_rules t date y) =
    c.in_ok-push_meant_of_year.ensures in
    let two : c.push_meant_of_year-2.new.days.items
    ≡ c.push_meant_of_year.new.days.items ++ filter h (spec.all_labelled newest_rules t date z) =
    c.in_ok-push_meant_of_year-2.ensures in
    let found = two
    ∙ ap (λ (ds : List ℕ). ds ++ filter h (spec.all_labelled newest_rules t date z))
    (one ∙ ap (λ (ds : List ℕ). ds ++ filter h (spec.all_labelled newest_rules t date y))
    c.new-days.ensures.items) in
    double_in_order newest_rules t date y z c.push_meant_of_year-2.new.days.items
    c.sort.new.self.items (search (rules, c.from-year.ensures, c.year_of.ensures))
    (search (rules, c.from-year.ensures, c.year_of.ensures)) found
    c.in_ok-sort.ensures.permutation c.in_ok-sort.ensures.sorted
