use Rattle.std.proofs.Common.{◌≡◌, ◌<◌, ℕ, suc, true, get_or}
use Rattle.osn_territory.specs.declared.dating.DatedDay.{DatedDay}
use Rattle.osn_pages.specs.Grid as spec
use Rattle.osn_pages.proofs.grid.week_len.Given as goal

-- each day so far is of the week of the day before it
abbrev pub invariant-loop-place : goal.invariant-loop-place
invariant-loop-place l =
    (k : ℕ) (d : DatedDay) → suc k < l.place
    → spec.is_in_week (get_or l.days k d) (get_or l.days (suc k) d) ≡ true
