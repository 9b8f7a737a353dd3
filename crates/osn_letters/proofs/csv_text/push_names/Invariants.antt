use Rattle.std.proofs.Common.{◌≡◌, ◌++◌, [], map, take}
use Rattle.csv.specs.Records.{fields_of, partial_of}
use Rattle.osn_letters.specs.AddedColumns.{added_name}
use Rattle.osn_letters.proofs.csv_text.push_names.Given as goal

-- the fields so far
abbrev pub invariant-loop-column : goal.invariant-loop-column
invariant-loop-column l =
    (fields_of l.row
    ≡ fields_of l.initial.row ++ map added_name (take l.column-index l.columns))
    × (partial_of l.row ≡ [])
