use Rattle.std.proofs.Common.{◌≡◌, ◌≤◌, ◌+◌, ◌++◌, List, length}
use Rattle.std.specs.Iterator.Adapters.{zip_first, zip_second}
use Rattle.std.specs.List.{All}
use Rattle.std.specs.Slice.Iter.{iter_rest}
use Rattle.std.specs.Vec.Iter.{into_iter_items, into_iter_len}
use Rattle.core.specs.declared.thread.PromisedHandle.{PromisedHandle}
use Rattle.osn_live.specs.declared.protocol.Origin.{Origin}
use Rattle.osn_live.specs.declared.work.WorkResult.{WorkResult}
use Rattle.osn_live.specs.declared.work.Works.{Works}
use Rattle.osn_live.specs.InsideDesk.{AreStarted, AreAt, AreNumbered}
use Rattle.osn_live.proofs.desk.start_all.Given as goal

-- those that are started, and after them those for the lists that are left
abbrev pub invariant-loop-list : goal.invariant-loop-list
invariant-loop-list g l = record {
  few : l.who + length (iter_rest (zip_first l.list-iterator)) ≤ 64;
  count : into_iter_len (zip_second l.list-iterator)
      ≡ length (iter_rest (zip_first l.list-iterator));
  started : (o : Origin) → All (λ r. r.origin ≡ o) l.fn.readers.items →
      All (λ r. r.origin ≡ o) (into_iter_items (zip_second l.list-iterator))
      × ((hs : List (PromisedHandle WorkResult (Works g.row.G.Denot))) →
      AreStarted o hs (iter_rest (zip_first l.list-iterator)) →
      AreStarted o (l.handles.items ++ hs) l.lists);
  gates : AreAt l.fn.gate l.handles.items;
  numbers : AreNumbered 1 l.handles.items;
  made : length l.handles.items ≡ l.who;
}
