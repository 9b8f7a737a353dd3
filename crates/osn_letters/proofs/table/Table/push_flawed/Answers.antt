use Rattle.std.proofs.Common.{◌++◌, ◌∙◌, ◌-◌, ap, refl, length}
use Rattle.csv.specs.Records.{fields_of}
use Rattle.osn_letters.specs.Table.{fields_from, flawed_text}
use Rattle.osn_letters.proofs.TableFacts.{written_by}
use Rattle.osn_letters.proofs.table.Table.push_flawed.Goals as goal

pub returns-clause-text : goal.returns-clause-text
unfolding flawed_text
returns-clause-text c =
    let row = fields_of c.args.row.now in
    let rows = c.args.rows in
    written_by c.write_row.result _ _ _ _ _ _ _ refl refl
    (c.in_ok-made.ensures
    ∙ ap (λ made. fields_from row 0 rows.columns.own
    ++ (made.fields ++ fields_from row rows.width (length row - rows.width)))
    c.in_ok-fields.ensures)
    c.write_row.ensures.text
