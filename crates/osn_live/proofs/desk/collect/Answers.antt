use Rattle.std.proofs.Common.{◌≡◌, ◌∙◌, ◌+◌, ◌++◌, [], ◌∷◌, length, rules, arith, subst, sym, ap}
use Rattle.std.proofs.Common.{refl, IfErr, OnOk, append_assoc}
use Rattle.std.proofs.lemmas.List.{length-append}
use Rattle.std.proofs.lemmas.Result.{err_from_is_err_and}
use Rattle.std.specs.Iterator.Adapters.{zip_second}
use Rattle.std.specs.Vec.Iter.{into_iter_items}
use Rattle.std.proofs.lemmas.List.Elements.{All-head, All-tail}
use Rattle.osn_live.specs.InsideWork.{IsOfPassing}
use Rattle.osn_live.specs.InsideDesk.{AreAt, IsOfTheirGate}
use Rattle.osn_days.specs.Rules.{newest_rules}
use Rattle.osn_live.specs.Desk.{AreReplies, AreAll, HearsOf, HearsOfLists}
use Rattle.osn_live.proofs.AtWork.{next_pair, no_pair, few_left, count_left, one_done, all_done}
use Rattle.osn_live.proofs.AtWork.{started_rest, started_count, lists_left, is_one_of}
use Rattle.osn_live.proofs.AtWork.{started_first, fault_at, gate_at}
use Rattle.osn_live.proofs.Hears.{hears_at, if_err_at, names_at, numbers_rest}
use Rattle.osn_live.proofs.desk.collect.Goals as goal

pub loop-list-init : goal.loop-list-init
loop-list-init g c =
    let count = started_count c.args.editor.now.origin c.args.handles.items c.args.lists.now
    c.requires.started in
    record {
      few = search (rules, count);
      count = search (rules, count);
      lists = search (rules, count);
      gates = search (rules, count);
      place = ([], search rules, refl);
      numbers = search rules;
      calls = search rules;
      started = search (rules, count);
      replies = search (rules, count);
    }

pub loop-list-preserved : goal.loop-list-preserved
loop-list-preserved g c =
    let loop = c.loop-list in
    let origin = c.args.editor.now.origin in
    let batches = c.args.editor.now.object.batches in
    let list = c.in-Some.list in
    let called = c.in_ok-replies.replies in
    let step = next_pair loop.list-iterator c.next.new.self _ (list, c.in-Some.handle)
    c.in-Some.is c.next.ensures.steps in
    let one : AreReplies newest_rules origin.limits batches 0 list.now.items called.items =
    rw (c.note.ensures.batches, c.note.ensures.origin, c.as_slice.ensures.value)
    at c.in_ok-replies.ensures.replies in
    let handle = c.in-Some.handle in
    let place = loop.invariant.place in
    let numbers = numbers_rest _ _ _ handle step.1 loop.invariant.numbers in
    record {
      place = (
        place.0 ++ handle ∷ [],
        place.1 ∙ ap (λ x. place.0 ++ x) step.1 ∙ sym (append_assoc place.0 (handle ∷ []) _),
        omega (arith, place.2, length-append place.0 (handle ∷ [])),
      );
      numbers = numbers.1;
      calls = λ gate all rest.
          let at = All-head (λ h. h.promise.2.value ≡ gate) handle _
          (subst (AreAt gate) step.1 (loop.invariant.gates gate all)) in
          let hears = subst (λ r. OnOk r (HearsOf g.G.Gate.let_pass g.G.Gate.saw_end
          handle.promise.2.value handle.promise.3 (length handle.promise.1.value.items)))
          c.in_ok-replies.ensures.same c.join-work_result.ensures.hears in
          let one = hears_at g.G.Gate.let_pass g.G.Gate.saw_end handle.promise gate _ list.now at
          numbers.0 (started_first origin _ _ _ _ handle list.now step.1 step.0
          loop.invariant.started).list_is hears in
          loop.invariant.calls gate all
          (subst (HearsOfLists g.G.Gate.let_pass g.G.Gate.saw_end gate (loop.who + 1)) (sym step.0)
          (one, rest));
      few = few_left loop.who _ list.now _ step.0 loop.invariant.few;
      count = count_left _ _ _ list.now _ step.0 step.2 loop.invariant.count;
      lists = lists_left loop.who _ list.now _ _ step.0 loop.invariant.lists;
      gates = λ gate all. All-tail (λ h. h.promise.2.value ≡ gate) c.in-Some.handle _
          (subst (AreAt gate) step.1 (loop.invariant.gates gate all));
      started = started_rest origin _ _ _ _ c.in-Some.handle list.now step.1 step.0
          loop.invariant.started;
      replies = rw c.in_ok-push.ensures.items (one_done (AreAll newest_rules origin.limits batches)
          c.args.lists.now _ _ list.now loop.all.items called step.0 (λ more rest. (one, rest))
          loop.invariant.replies);
    }

pub returns-clause-replies : goal.returns-clause-replies
returns-clause-replies g c =
    let loop = c.loop-list in
    let none = no_pair loop.list-iterator c.next.new.self _ c.in-None.is c.next.ensures.steps
    loop.invariant.count in
    all_done (AreAll newest_rules c.args.editor.now.origin.limits c.args.editor.now.object.batches)
    c.args.lists.now _ loop.all.items none tt loop.invariant.replies

pub returns-in_err-replies-clause-fault : goal.returns-in_err-replies-clause-fault
returns-in_err-replies-clause-fault g c =
    let loop = c.loop-list in
    let list = c.in-Some.list in
    let step = next_pair loop.list-iterator c.next.new.self _ (list, c.in-Some.handle)
    c.in-Some.is c.next.ensures.steps in
    let few = is_one_of loop.who _ list.now _ _ step.0 loop.invariant.lists in
    let called = fault_at _ _ _ (length c.args.lists.now) _ _ (omega arith) few
    c.in_err-replies.ensures.fault in
    search (rules, called)

pub returns-in_err-replies-clause-gate : goal.returns-in_err-replies-clause-gate
returns-in_err-replies-clause-gate g c =
    let loop = c.loop-list in
    let handle = c.in-Some.handle in
    let step = next_pair loop.list-iterator c.next.new.self _ (c.in-Some.list, handle)
    c.in-Some.is c.next.ensures.steps in
    let called : IsOfTheirGate g.G.Gate.is_open c.args.handles.items c.in_err-replies.field-0.0 =
    record {
      of = λ gate all.
          let at = All-head (λ h. h.promise.2.value ≡ gate) handle _
          (subst (AreAt gate) step.1 (loop.invariant.gates gate all)) in
          gate_at (g.G.Gate.is_open gate) _ _ _ _ _
          (subst (λ x. IfErr c.join-work_result.result.replies (IsOfPassing (g.G.Gate.is_open x)))
          at
          c.join-work_result.ensures.gate) c.in_err-replies.ensures.fault;
    } in
    search (rules, called)

pub returns-clause-calls : goal.returns-clause-calls
returns-clause-calls g c =
    let loop = c.loop-list in
    let none = no_pair loop.list-iterator c.next.new.self _ c.in-None.is c.next.ensures.steps
    loop.invariant.count in
    record {
      of = λ gate all. loop.invariant.calls gate all
          (subst (HearsOfLists g.G.Gate.let_pass g.G.Gate.saw_end gate (loop.who + 1)) (sym none)
          tt);
    }

pub returns-in_err-replies-clause-names : goal.returns-in_err-replies-clause-names
returns-in_err-replies-clause-names g c =
    let loop = c.loop-list in
    let handle = c.in-Some.handle in
    let place = loop.invariant.place in
    let step = next_pair loop.list-iterator c.next.new.self _ (c.in-Some.list, handle)
    c.in-Some.is c.next.ensures.steps in
    let err = err_from_is_err_and c.from_residual.result c.from_residual.ensures.1 in
    if_err_at _ c.from_residual.result err.0 _ err.1 err.2
    (names_at _ c.args.handles.items _ _ _ _ c.in_err-replies.field-0.0 (record {
      before = place.0;
      handle = handle;
      after = into_iter_items (zip_second c.next.new.self);
      place = place.1 ∙ ap (λ x. place.0 ++ x) step.1;
      number = omega (arith, place.2);
      work = c.join-work_result.result;
      kept = c.join-work_result.ensures;
      seen = refl;
    }) c.in_err-replies.ensures.fault)
