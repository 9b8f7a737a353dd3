use Rattle.std.proofs.Common.{◌≤◌, ◌-◌, ◌∙◌, length, arith}
use Rattle.osn_files.proofs.QuestionLemmas.{with_query_at-grown}
use Rattle.osn_files.proofs.lists.Lists.grow.Goals as goal

pub loop-alloc-preserved : goal.loop-alloc-preserved
loop-alloc-preserved c = λ q.
    let short : length c.loop-alloc.self-inside.lists.items ≤ c.args.reader - 1 =
    omega (arith, c.len.ensures, c.loop-alloc.self-inside.lists.ok.0, c.loop-alloc-test.true) in
    with_query_at-grown _ _ _ _ q c.in_ok-push.ensures.items c.new.ensures.items short
    ∙ c.loop-alloc.invariant q
