use Rattle.std.proofs.Common.{rules, ◌∙◌, ap}
use Rattle.osn_letters.proofs.TallyFacts.{none_remarked, row_counted, some_remarked}
use Rattle.osn_letters.proofs.tally.Tally.count.Goals as goal

pub returns-then-not-is_empty : goal.returns-then-not-is_empty
returns-then-not-is_empty c =
    row_counted c.args.self.now c.args.remarks.now _ _ _ (search rules)
    (search rules ∙ some_remarked c.args.self.now.remarked c.args.remarks.now (search rules))
    (ap (λ t. t.by_remark) c.self.view_is ∙ c.in_ok-count_remarks.ensures.remarks)

pub returns-else-not-is_empty : goal.returns-else-not-is_empty
returns-else-not-is_empty c =
    row_counted c.args.self.now c.args.remarks.now _ _ _ (search rules)
    (search rules ∙ none_remarked c.args.self.now.remarked c.args.remarks.now (search rules))
    (ap (λ t. t.by_remark) c.self.view_is ∙ c.in_ok-count_remarks.ensures.remarks)
