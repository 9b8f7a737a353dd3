-- A range from one part of a time to another one: early 1675 - late 1676. This project's profile.
use Rattle.std.specs.Prelude.{ℕ, Bool, true, false, List, [], ◌∷◌, ◌++◌, Option, Some, None}
use Rattle.std.specs.Prelude.{Ok, nat_le, if◌then◌else◌}
use Rattle.osn_grammar.specs.declared.token.Token.{Token}
use Rattle.osn_grammar.specs.declared.token.Token.TheVariants as token
use Rattle.osn_grammar.specs.Period.{part_of_month, period_in, three_months}
use Rattle.osn_written.specs.declared.any_date.Extent.{Extent}
use Rattle.osn_written.specs.declared.any_date.Extent.TheVariants as extent
use Rattle.osn_written.specs.declared.any_date.PartialDate.{PartialDate}
use Rattle.osn_written.specs.declared.any_date.PartialDate.TheVariants as date
use Rattle.osn_written.specs.declared.any_date.Year.{Year}
use Rattle.osn_written.specs.declared.portion.Portion.TheVariants as portion

-- the first date of a part of a time. A part of a year has one only if it begins with the year
abbrev pub start_of : Extent → Option PartialDate
start_of (extent.FromTo a b) = Some a
start_of (extent.Part portion.FirstThird d) = Some d
start_of (extent.Part portion.FirstHalf d) = Some d
start_of _ = None

-- the last one, in the same way
abbrev pub stop_of : Extent → Option PartialDate
stop_of (extent.FromTo a b) = Some b
stop_of (extent.Part portion.LastThird d) = Some d
stop_of (extent.Part portion.SecondHalf d) = Some d
stop_of _ = None

abbrev pub start_in : Option Extent → Option PartialDate
start_in None = None
start_in (Some e) = start_of e

abbrev pub stop_in : Option Extent → Option PartialDate
stop_in None = None
stop_in (Some e) = stop_of e

abbrev pub year_in : PartialDate → Year
year_in (date.Day year month day) = year
year_in (date.Month year month) = year
year_in (date.Year year) = year

-- the first part may lack its year: late May to early June 1675
abbrev pub part_without_year : Year → List Token → Option Extent
part_without_year year (token.Portion p ∷ token.Month m ∷ []) = Some (part_of_month p year m)
part_without_year year (token.Season first ∷ []) =
    if nat_le first 10 then three_months (Ok year) first else None
part_without_year year _ = None

abbrev pub or_lacking : Option Extent → Option Extent → Option Extent
or_lacking (Some e) other = Some e
or_lacking None other = other

abbrev pub from_to : Option PartialDate → Option PartialDate → Option Extent
from_to None last = None
from_to (Some first) None = None
from_to (Some first) (Some last) = Some (extent.FromTo first last)

abbrev pub range_to : List Token → Option PartialDate → Option Extent
range_to first None = None
range_to first (Some last) =
    from_to (start_in (or_lacking (period_in first) (part_without_year (year_in last) first)))
    (Some last)

-- what joins two of them: `to`, `or`, a dash, and `au`
abbrev pub join_parts : List Token → Token → List Token → Option Extent
join_parts first token.To last = range_to first (stop_in (period_in last))
join_parts first token.Or last = range_to first (stop_in (period_in last))
join_parts first token.Dash last = range_to first (stop_in (period_in last))
join_parts first token.ToThe last = range_to first (stop_in (period_in last))
join_parts first token last = None

-- the range that parts are after some others, at the first part that joins two of them
abbrev pub parts_after : List Token → List Token → Option Extent
parts_after before [] = None
parts_after before (token ∷ rest) =
    or_lacking (join_parts before token rest) (parts_after (before ++ token ∷ []) rest)

abbrev pub part_range : List Token → Option Extent
part_range tokens = parts_after [] tokens
