use Rattle.std.proofs.Common.{◌≡◌, ◌≤◌, length}
use Rattle.std.specs.Io.KnownBytes.{Consumes}
use Rattle.osn_lines.proofs.whole.read_all.Given as goal

-- the bytes that were read are in memory, at least one of each read
abbrev pub invariant-loop-call : goal.invariant-loop-call
invariant-loop-call g l =
    record {
      buffer : length l.buffer.items ≡ 65536;
      source : g.R.Source.has_failed l.source ≡ g.R.Source.has_failed l.fn.source;
      few : l._call ≤ length l.bytes.items;
      read : Consumes (g.R.Source.remaining l.fn.source) (g.R.Source.remaining l.source)
          l.bytes.items;
    }
