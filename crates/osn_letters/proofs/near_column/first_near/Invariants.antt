use Rattle.std.proofs.Common.{◌≡◌, drop, find, map}
use Rattle.csv.specs.Records.{fields_of}
use Rattle.osn_lines.specs.Near.{is_near}
use Rattle.osn_letters.specs.NearColumn.{name_text}
use Rattle.osn_letters.proofs.near_column.first_near.Given as goal

-- what is left decides
abbrev pub invariant-loop-index : goal.invariant-loop-index
invariant-loop-index l =
    find (is_near l.most l.name) (map name_text (fields_of l.header))
    ≡ find (is_near l.most l.name) (map name_text (drop l.index (fields_of l.header)))
