use Rattle.csv.specs.Records.{fields_of}
use Rattle.osn_letters.proofs.ColumnFacts.{field_is, no_field}
use Rattle.osn_letters.proofs.columns.field_at.Goals as goal

pub returns-in-Some : goal.returns-in-Some
returns-in-Some c =
    field_is (fields_of c.args.row.now) c.args.index _ c.in-Some.ensures.value

pub returns-in-None : goal.returns-in-None
returns-in-None c = no_field (fields_of c.args.row.now) c.args.index c.in-None.ensures.value
