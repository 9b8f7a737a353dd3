-- The columns that are put after those of a table: this project's profile.
use Rattle.std.specs.Prelude.{ℕ, List, [], ◌∷◌, map, codes}
use Rattle.osn_letters.specs.declared.added_column.AddedColumn.{AddedColumn}
use Rattle.osn_letters.specs.declared.added_column.AddedColumn.TheVariants as added

abbrev pub added_name : AddedColumn → List ℕ
added_name added.Days = codes "days"
added_name added.Gregorian = codes "gregorian"
added_name added.Julian = codes "julian"
added_name added.Dual = codes "dual"
added_name added.WeekdayFound = codes "weekday_found"
added_name added.JulianDayNumber = codes "jdn"
added_name added.Earliest = codes "earliest"
added_name added.Latest = codes "latest"
added_name added.Kind = codes "kind"
added_name added.Edtf = codes "edtf"
added_name added.Edition = codes "edition"
added_name added.Remark = codes "remark"

-- all of them, in their order
abbrev pub added_columns : List AddedColumn
added_columns =
    added.Days
    ∷ added.Gregorian
    ∷ added.Julian
    ∷ added.Dual
    ∷ added.WeekdayFound
    ∷ added.JulianDayNumber
    ∷ added.Earliest
    ∷ added.Latest
    ∷ added.Kind
    ∷ added.Edtf
    ∷ added.Edition
    ∷ added.Remark
    ∷ []

abbrev pub added_names : List (List ℕ)
added_names = map added_name added_columns
