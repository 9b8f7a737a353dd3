-- The days of a set of dates in a territory, of which one is meant. This project's profile.
use Rattle.std.specs.Prelude.{Bool, List, [], ◌∷◌, ◌++◌, Result, Ok, Err, Vec}
use Rattle.std.specs.declared.alloc.Global.{Global}
use Rattle.std.specs.List.{list_any}
use Rattle.std.specs.Result.{result_map_both}
use Rattle.osn_days.specs.Rules.{Rules}
use Rattle.osn_written.specs.declared.any_date.AnyDate.{AnyDate}
use Rattle.osn_territory.specs.declared.runs.Run.{Run}
use Rattle.osn_territory.specs.Territory.{TerritoryModel}
use Rattle.osn_written.specs.declared.finding.NoDay.{NoDay}
use Rattle.osn_written.specs.declared.set.AbsentMember.{AbsentMember}
use Rattle.osn_written.specs.Finding.{extent_meant}
use Rattle.osn_written.specs.Union.{union}

-- ---- how sure a set is

-- one of the dates is approximate, or is in doubt
abbrev pub is_set_approximate : List AnyDate → Bool
is_set_approximate members = list_any (λ w. w.is_approximate) members

abbrev pub is_set_uncertain : List AnyDate → Bool
is_set_uncertain members = list_any (λ w. w.is_uncertain) members

-- ---- the days

-- the runs of a date before those of others, unless it means no day
abbrev pub before_others : AnyDate → Result (List Run) NoDay → Result (List Run) AbsentMember
    → Result (List Run) AbsentMember
before_others w (Err reason) others = Err (record { extent = w.extent; reason = reason })
before_others w (Ok runs) (Err absent) = Err absent
before_others w (Ok runs) (Ok others) = Ok (runs ++ others)

-- the runs of all dates, or the first date that means no day
abbrev pub members_meant : Rules → TerritoryModel → List AnyDate → Result (List Run) AbsentMember
members_meant p t [] = Ok []
members_meant p t (w ∷ ws) = before_others w (extent_meant p t w.extent) (members_meant p t ws)

-- the days of a set, or the first date that means no day
abbrev pub union_of_runs : Rules → Result (List Run) AbsentMember → Result (List Run) AbsentMember
union_of_runs p (Ok runs) = Ok (union p runs)
union_of_runs p (Err absent) = Err absent

abbrev pub set_meant : Rules → TerritoryModel → List AnyDate → Result (List Run) AbsentMember
set_meant p t members = union_of_runs p (members_meant p t members)

-- the result of the code for a set, with its runs as a list
abbrev pub set_list_of : Result (Vec Run Global) AbsentMember → Result (List Run) AbsentMember
set_list_of = result_map_both (λ runs. runs.items) (λ absent. absent)
