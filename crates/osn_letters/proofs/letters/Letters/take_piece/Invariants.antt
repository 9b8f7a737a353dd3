use Rattle.std.proofs.Common.{◌+◌, ◌-◌, ◌≤◌, length, take}
use Rattle.osn_letters.specs.LettersInside.{IsReady, CountsBytes, TakesBytes}
use Rattle.osn_letters.proofs.letters.Letters.take_piece.Given as goal

-- the bytes so far were taken
abbrev pub invariant-loop-count : goal.invariant-loop-count
invariant-loop-count l =
    record {
      ready : IsReady l.self;
      line : l.self.parser.line ≤ l.initial.self.parser.line + l.count;
      within : l.count ≤ length l.piece;
      takes : TakesBytes l.initial.self l.self (take l.count l.piece);
      counts : CountsBytes l.initial.self l.self (take l.count l.piece);
    }

abbrev pub decreases-loop-count : goal.decreases-loop-count
decreases-loop-count l = length l.piece - l.count
