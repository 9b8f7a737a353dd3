use Rattle.std.proofs.Common.{◌+◌, ◌==◌, ◌∙◌, ap, not, reverse, take_while, rules}
use Rattle.std.specs.Slice.Iter.{iter_rest}
use Rattle.std.proofs.lemmas.Iterator.Adapters.{YieldsList-from_rev_slice}
use Rattle.std.proofs.lemmas.Iterator.Consumers.{YieldsList-at, YieldsList-from_filter}
use Rattle.std.proofs.lemmas.Iterator.Consumers.{count_from_yields_List}
use Rattle.std.proofs.lemmas.Iterator.Search.{YieldsList-from_take_while}
use Rattle.std.proofs.lemmas.List.Sums.{length-filter}
use borrow.Author.Tests.{tests}
use Rattle.osn_register_text.specs.Lines.{begins_character}
use Rattle.osn_register_text.proofs.toml_fault.column_after.Goals as goal

pub returns : goal.returns
returns c =
    ap (λ n. n + 1)
    (count_from_yields_List _ c.count.result c.count.ensures.ran
    (YieldsList-from_filter _ begins_character
    (YieldsList-at c.filter.ensures.source
    (YieldsList-from_take_while _ (λ b. not (b == 10))
    (YieldsList-at c.take_while.ensures.source
    (YieldsList-from_rev_slice c.args.before.now
    (ap iter_rest c.rev.ensures.source ∙ c.iter.ensures.rest)))
    c.take_while.ensures.closure c.take_while.ensures.done (λ x b q k. search (rules, tests))))
    c.filter.ensures.closure (λ x b q k. search (rules, tests)))
    ∙ length-filter begins_character
    (take_while (λ b. not (b == 10)) (reverse c.args.before.now)))
