-- The days that any of some runs has, as runs in order.
use Rattle.std.specs.Prelude.{ℕ, ◌+◌, ◌≤◌, Bool, ◌&&◌, nat_le, if◌then◌else◌, List, [], ◌∷◌, filter}
use Rattle.std.specs.List.{list_any}
use Rattle.osn_days.specs.Rules.{Rules}
use Rattle.osn_days.specs.Line.{line}
use Rattle.osn_territory.specs.declared.runs.Run.{Run}
use Rattle.osn_written.specs.Runs.{runs_of}

-- the run has the day
abbrev pub has_day : ℕ → Run → Bool
has_day d run = nat_le run.first d && nat_le d run.last

-- the days that any of some runs has, as runs in order
unfoldable pub union : Rules → List Run → List Run
union p runs = runs_of (filter (λ d. list_any (has_day d) runs) (line p))

-- ---- how they are found

-- the first day of a run from a number on
abbrev pub first_from : Run → ℕ → ℕ
first_from run next = if nat_le next run.first then run.first else next

-- what is left of a run, if it has a day left, and of the others
abbrev pub with_rest : ℕ → ℕ → List Run → List Run → List Run
with_rest first last after before =
    if nat_le first last then record { first = first; last = last } ∷ after else before

-- of runs in the order of their first days, each without the days before a number, and without
-- those of the runs before it
abbrev pub rest_from : ℕ → List Run → List Run
rest_from next [] = []
rest_from next (r ∷ rs) =
    with_rest (first_from r next) r.last (rest_from (r.last + 1) rs) (rest_from next rs)

-- each run ends on the line
abbrev pub EndOnLine : Rules → List Run → Type 0
EndOnLine p [] = Unit {0}
EndOnLine p (r ∷ rs) = (r.last ≤ p.high) × EndOnLine p rs
