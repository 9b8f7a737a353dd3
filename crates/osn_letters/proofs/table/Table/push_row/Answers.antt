use Rattle.std.proofs.Common.{◌++◌, ◌∙◌, ap, refl, take}
use Rattle.csv.specs.Records.{fields_of}
use Rattle.osn_letters.specs.Fields.{fields_and_remarks}
use Rattle.osn_letters.specs.Table.{letter_text}
use Rattle.osn_letters.proofs.TableFacts.{written_by}
use Rattle.osn_letters.proofs.table.Table.push_row.Goals as goal

pub returns-clause-text : goal.returns-clause-text
unfolding letter_text
returns-clause-text c =
    written_by c.write_row.result _ _ _ _ _ _ _ refl refl
    (c.in_ok-push_to.ensures.fields
    ∙ ap (λ own. own ++ (fields_and_remarks c.in_ok-fields.fields).fields)
    c.keep_fields.ensures.fields
    ∙ ap (λ made. take c.args.columns.own (fields_of c.args.row.now) ++ made.fields)
    c.in_ok-fields.ensures)
    c.write_row.ensures.text
