use Rattle.std.proofs.Common.{◌≡◌, ◌*◌, ◌<◌, ◌≤◌, ℕ, List, length}
use Rattle.std.specs.Io.KnownBytes.{Consumes}
use Rattle.osn_lines.specs.Inside.{IsUnended, IsTaken}
use Rattle.osn_lines.proofs.stream.take_lines.Given as goal

-- of the bytes that were read each line that has ended is taken, and the beginning of the next is
-- kept
abbrev pub invariant-loop-call : goal.invariant-loop-call
invariant-loop-call g l =
    record {
      room : 0 < length l.buffer.items;
      buffer : length l.buffer.items ≤ 65536;
      few : l.lines ≤ 65536 * l._call;
      source : g.R.Source.has_failed l.source ≡ g.R.Source.has_failed l.fn.source;
      progress : (read : List ℕ) × (l._call ≤ length read)
          × Consumes (g.R.Source.remaining l.fn.source) (g.R.Source.remaining l.source) read
          × IsTaken g.T.LineTaker.after l.fn.taker l.taker read 0 l.lines
          (IsUnended l.partial_line);
    }
