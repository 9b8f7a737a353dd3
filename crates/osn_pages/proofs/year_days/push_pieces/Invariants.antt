use Rattle.std.proofs.Common.{◌≡◌, ◌++◌, length, string_bytes}
use Rattle.osn_days.specs.Rules.{newest_rules}
use Rattle.osn_pages.specs.YearPage as spec
use Rattle.osn_pages.proofs.year_days.push_pieces.Given as goal

-- the lines of the days that are left are still to come
abbrev pub invariant-loop-rest : goal.invariant-loop-rest
invariant-loop-rest l =
    string_bytes l.initial.out ++ spec.pieces_text newest_rules l.part l.year l.days
    ≡ string_bytes l.out ++ spec.pieces_text newest_rules l.part l.year l.rest

-- the days that are left
abbrev pub decreases-loop-rest : goal.decreases-loop-rest
decreases-loop-rest l = length l.rest
