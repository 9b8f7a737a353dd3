use Rattle.std.proofs.Common.{◌≡◌, ◌≤◌, ◌+◌, ◌++◌, List, length, Vec}
use Rattle.std.specs.Iterator.Adapters.{zip_first, zip_second}
use Rattle.std.specs.Slice.Iter.{iter_rest}
use Rattle.std.specs.Vec.Iter.{into_iter_items, into_iter_len}
use Rattle.std.specs.declared.alloc.Global.{Global}
use Rattle.core.specs.declared.thread.PromisedHandle.{PromisedHandle}
use Rattle.osn_days.specs.Rules.{newest_rules}
use Rattle.osn_core.specs.declared.step.Reply.{Reply}
use Rattle.osn_live.specs.Desk.{AreAll, HearsOfLists}
use Rattle.osn_live.specs.InsideDesk.{AreStarted, AreAt, AreNumbered}
use Rattle.osn_live.specs.declared.work.WorkResult.{WorkResult}
use Rattle.osn_live.specs.declared.work.Works.{Works}
use Rattle.osn_live.proofs.desk.collect.Given as goal

-- the replies so far, and after them the replies to the lists that are left
abbrev pub invariant-loop-list : goal.invariant-loop-list
invariant-loop-list g l = record {
  few : l.who + length (iter_rest (zip_first l.list-iterator)) ≤ 64;
  count : into_iter_len (zip_second l.list-iterator)
      ≡ length (iter_rest (zip_first l.list-iterator));
  lists : l.who + length (iter_rest (zip_first l.list-iterator)) ≡ length l.lists;
  gates : (gate : g.row.G.Denot) → AreAt gate l.fn.handles.items →
      AreAt gate (into_iter_items (zip_second l.list-iterator));
  place : (front : List (PromisedHandle WorkResult (Works g.row.G.Denot)))
      × (l.fn.handles.items ≡ front ++ into_iter_items (zip_second l.list-iterator))
      × (length front ≡ l.who);
  numbers : AreNumbered (l.who + 1) (into_iter_items (zip_second l.list-iterator));
  calls : (gate : g.row.G.Denot) → AreAt gate l.fn.handles.items →
      HearsOfLists g.G.Gate.let_pass g.G.Gate.saw_end gate (l.who + 1)
      (iter_rest (zip_first l.list-iterator)) →
      HearsOfLists g.G.Gate.let_pass g.G.Gate.saw_end gate 1 l.lists;
  started : AreStarted l.fn.editor.origin (into_iter_items (zip_second l.list-iterator))
      (iter_rest (zip_first l.list-iterator));
  replies : (more : List (Vec Reply Global)) →
      AreAll newest_rules l.fn.editor.origin.limits l.fn.editor.object.batches
      (iter_rest (zip_first l.list-iterator)) more →
      AreAll newest_rules l.fn.editor.origin.limits l.fn.editor.object.batches l.lists
      (l.all.items ++ more);
}
