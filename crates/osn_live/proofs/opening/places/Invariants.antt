use Rattle.std.proofs.Common.{◌≡◌, vec_len}
use Rattle.std.specs.List.{All}
use Rattle.osn_live.specs.Running.{IsNew}
use Rattle.osn_live.proofs.opening.places.Given as goal

abbrev pub invariant-loop : goal.invariant-loop
invariant-loop l = record {
  same : l.editor ≡ l.fn.editor;
  count : vec_len l.all ≡ l.counter;
  new : All (λ r. IsNew l.fn.editor r) l.all.items;
}
