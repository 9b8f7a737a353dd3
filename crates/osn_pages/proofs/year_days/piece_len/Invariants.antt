use Rattle.std.proofs.Common.{◌≡◌, ◌<◌, ℕ, suc, true, get_or}
use Rattle.osn_territory.specs.declared.dating.DatedDay.{DatedDay}
use Rattle.osn_pages.specs.YearPage as spec
use Rattle.osn_pages.proofs.year_days.piece_len.Given as goal

-- each day so far is of the run or month of the day before it
abbrev pub invariant-loop-place : goal.invariant-loop-place
invariant-loop-place l =
    (k : ℕ) (d : DatedDay) → suc k < l.place
    → spec.goes_on l.part (get_or l.days k d) (get_or l.days (suc k) d) ≡ true
