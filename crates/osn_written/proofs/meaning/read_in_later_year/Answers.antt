use Rattle.std.proofs.Common.{ℕ, Bool, ◌∙◌, ap, filter, rules}
use Rattle.std.proofs.lemmas.Fn.{filter_same}
use Rattle.osn_days.specs.Rules.{newest_rules}
use Rattle.osn_territory.specs.Dating.{dated_on}
use Rattle.osn_written.specs.Meaning.{is_of_later_year}
use Rattle.osn_written.proofs.meaning.read_in_later_year.Goals as goal

pub returns : goal.returns
returns c =
    let t = c.args.territory.now in
    let test : ℕ → Bool = λ d. is_of_later_year c.args.date (dated_on newest_rules t d) in
    filter_same _ test _ (λ day answer after called. search rules) _ _ c.retain.ensures.filtered
    ∙ ap (filter test) c.in_ok-days.ensures.value
