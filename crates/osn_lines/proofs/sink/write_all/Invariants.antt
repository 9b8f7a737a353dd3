use Rattle.std.proofs.Common.{◌≡◌, ◌≤◌, length, take}
use Rattle.std.specs.Io.KnownBytes.{Appends}
use Rattle.osn_lines.proofs.sink.write_all.Given as goal

abbrev pub invariant-loop-call : goal.invariant-loop-call
invariant-loop-call g l =
    let contents = g.W.Sink.contents in
    record {
      within : l.count ≤ length l.bytes;
      calls : l._call ≤ l.count;
      appends : Appends (contents l.fn.sink) (contents l.sink) (take l.count l.bytes);
      sound : g.W.Sink.has_failed l.sink ≡ g.W.Sink.has_failed l.fn.sink;
    }
