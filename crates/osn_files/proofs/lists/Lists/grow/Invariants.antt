use Rattle.std.proofs.Common.{◌≡◌, ◌-◌, map}
use Rattle.osn_register.specs.declared.query.Query.{Query}
use Rattle.osn_files.specs.QuestionsInside.{with_query_at}
use Rattle.osn_files.proofs.lists.Lists.grow.Given as goal

abbrev pub invariant-loop-alloc : goal.invariant-loop-alloc
invariant-loop-alloc l =
    (q : Query) → with_query_at (map (λ qs. qs.items) l.self-inside.lists.items) (l.reader - 1) q
    ≡ with_query_at (map (λ qs. qs.items) l.initial.self-inside.lists.items) (l.reader - 1) q

abbrev pub decreases-loop-alloc : goal.decreases-loop-alloc
decreases-loop-alloc l = l.reader - l.self-inside.lists.len
