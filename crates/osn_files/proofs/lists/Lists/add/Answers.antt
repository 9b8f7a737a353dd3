use Rattle.std.proofs.Common.{◌∙◌, ◌-◌, ◌<◌, ◌≤◌, length, ap, arith, subst, sym}
use Rattle.std.proofs.lemmas.List.{length-map}
use Rattle.osn_files.specs.QuestionsInside.{with_query_at}
use Rattle.osn_files.proofs.QuestionLemmas.{with_query_at-put, with_query-from_one}
use Rattle.osn_files.proofs.lists.Lists.add.Goals as goal

pub returns : goal.returns
returns c =
    let lists = c.self.inside.lists.items in
    let grown : c.args.reader ≤ length lists =
    subst (λ n. c.args.reader ≤ n)
    (sym (ap length c.self.view_is) ∙ length-map lists (λ qs. qs.items))
    c.in_ok-grow.ensures.long in
    let long : c.args.reader - 1 < length lists = omega (arith, grown, c.requires) in
    with_query_at-put lists _ _ (c.args.reader - 1) c.args.query long c.index_mut.ensures.value
    c.in_ok-push.ensures.items
    ∙ (ap (λ l. with_query_at l (c.args.reader - 1) c.args.query) c.self.view_is
    ∙ (c.in_ok-grow.ensures.same c.args.query
    ∙ sym (with_query-from_one _ c.args.reader c.args.query c.requires)))
