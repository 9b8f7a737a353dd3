use Rattle.std.proofs.Common.{◌+◌, ◌-◌, ◌≤◌, ℕ, List, ◌++◌, length, take}
use Rattle.osn_lines.specs.Inside.{IsUnended, IsTaken}
use Rattle.osn_lines.proofs.pieces.take_piece.Given as goal

-- the lines that end before `from` are taken, and `partial_line` has the bytes of the next line
-- before `from`
abbrev pub invariant-loop-index : goal.invariant-loop-index
invariant-loop-index g l =
    record {
      within : l.from ≤ length l.piece;
      count : l.lines ≤ l.fn.lines + l.from;
      progress : (part : List ℕ) → IsUnended l.fn.partial_line part →
          IsTaken g.T.LineTaker.after l.fn.taker l.taker (part ++ take l.from l.piece) l.fn.lines
          l.lines (IsUnended l.partial_line);
    }

abbrev pub decreases-loop-index : goal.decreases-loop-index
decreases-loop-index g l = length l.piece - l.from
