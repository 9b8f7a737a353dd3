use Rattle.std.proofs.Common.{◌≡◌, ◌++◌, ◌-◌, []}
use Rattle.csv.specs.Records.{fields_of, partial_of}
use Rattle.osn_letters.specs.Table.{fields_from}
use Rattle.osn_letters.proofs.csv_text.push_fields.Given as goal

-- the fields so far, and those that are left
abbrev pub invariant-loop-index : goal.invariant-loop-index
invariant-loop-index l = record {
  fields : fields_of l.row ++ fields_from (fields_of l.from) l.index (l.end - l.index)
      ≡ fields_of l.initial.row ++ fields_from (fields_of l.from) l.start (l.end - l.start);
  partial : partial_of l.row ≡ [];
}
