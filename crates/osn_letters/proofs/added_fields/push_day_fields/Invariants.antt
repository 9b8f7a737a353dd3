use Rattle.std.proofs.Common.{◌≡◌, ◌++◌, [], map, take}
use Rattle.csv.specs.Records.{fields_of, partial_of}
use Rattle.osn_letters.specs.Fields as spec
use Rattle.osn_letters.proofs.added_fields.push_day_fields.Given as goal

-- the fields so far
abbrev pub invariant-loop-field : goal.invariant-loop-field
invariant-loop-field l =
    (fields_of l.row ≡ fields_of l.initial.row
    ++ map (spec.days_text l.days) (take l.field-index l.which))
    × (partial_of l.row ≡ [])
