use Rattle.osn_letters.proofs.TableFacts.{written_by}
use Rattle.osn_letters.proofs.table.Table.push_header.Goals as goal

pub returns-clause-text : goal.returns-clause-text
returns-clause-text c =
    written_by c.write_row.result _ _ _ _ _ _ _ c.in_ok-set_separator.ensures.separator
    c.in_ok-set_separator.ensures.waiting c.in_ok-push_names.ensures.fields
    c.write_row.ensures.text
