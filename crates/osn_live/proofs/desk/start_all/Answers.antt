use Rattle.std.proofs.Common.{◌≡◌, ◌∙◌, ◌∷◌, [], ap, subst, arith, rules}
use Rattle.std.proofs.lemmas.List.{length-append}
use Rattle.std.specs.List.{All}
use Rattle.std.proofs.lemmas.List.Elements.{All-head, All-tail, All-push}
use Rattle.osn_live.specs.declared.work.Works.{Works}
use Rattle.osn_live.specs.Running.{ReaderState}
use Rattle.osn_live.specs.InsideDesk.{IsStarted, AreStarted}
use Rattle.osn_live.proofs.AtWork.{next_pair, no_pair, few_left, count_left, one_done, all_done}
use Rattle.osn_live.proofs.Hears.{numbers_more}
use Rattle.osn_live.proofs.desk.start_all.Goals as goal

pub loop-list-preserved : goal.loop-list-preserved
loop-list-preserved g c =
    let loop = c.loop-list in
    let list = c.in-Some.list in
    let reader = c.in-Some.reader in
    let step = next_pair loop.list-iterator c.next.new.self _ (list, reader)
    c.in-Some.is c.next.ensures.steps in
    record {
      few = few_left loop.who _ list.now _ step.0 loop.invariant.few;
      count = count_left _ _ _ list.now _ step.0 step.2 loop.invariant.count;
      started = λ o all.
          let inv = loop.invariant.started o all in
          let P : ReaderState → Type 0 = λ r. r.origin ≡ o in
          let left : All P (reader ∷ _) = subst (All P) step.1 inv.0 in
          let one : IsStarted o c.in-Ok.handle list.now = record {
            reader = ap (λ (p : Works g.row.G.Denot). p.0.value.origin) c.in-Ok.ensures.ok
                ∙ ap (λ (r : ReaderState). r.origin) c.of-promise.ensures.reader
                ∙ All-head P reader _ left;
            list_is = ap (λ (p : Works g.row.G.Denot). p.1.value) c.in-Ok.ensures.ok
                ∙ c.of-promise.ensures.questions;
          } in (
            All-tail P reader _ left,
            rw c.in_ok-push.ensures.items (one_done (λ ls hs. AreStarted o hs ls) c.args.lists.now
                _ _ list.now loop.handles.items c.in-Ok.handle step.0 (λ hs rest. (one, rest))
                inv.1),
          );
      gates = rw c.in_ok-push.ensures.items (All-push (λ h. h.promise.2.value ≡ c.args.gate.now)
          loop.handles.items c.in-Ok.handle loop.invariant.gates
          (ap (λ (p : Works g.row.G.Denot). p.2.value) c.in-Ok.ensures.ok
          ∙ c.of-promise.ensures.gate));
      numbers = rw c.in_ok-push.ensures.items (numbers_more 1 loop.handles.items c.in-Ok.handle
          loop.invariant.numbers (ap (λ (p : Works g.row.G.Denot). p.3) c.in-Ok.ensures.ok
          ∙ c.of-promise.ensures.who ∙ omega (arith, loop.invariant.made)));
      made = search (rules, length-append loop.handles.items (c.in-Ok.handle ∷ []));
    }

pub returns-clause-started : goal.returns-clause-started
returns-clause-started g c o all =
    let loop = c.loop-list in
    let none = no_pair loop.list-iterator c.next.new.self _ c.in-None.is c.next.ensures.steps
    loop.invariant.count in
    all_done (λ ls hs. AreStarted o hs ls) c.args.lists.now _ loop.handles.items none tt
    (loop.invariant.started o all).1
