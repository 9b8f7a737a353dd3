use Rattle.std.proofs.Common.{◌∙◌, ap}
use Rattle.std.proofs.lemmas.Result.{IfOk-weaker}
use Rattle.osn_letters.specs.Columns.{names_of}
use Rattle.osn_page_commands.specs.Letters.{fields_line, has_line, lacks_lines}
use Rattle.osn_page_commands.proofs.table_faults.report_table.Goals as goal

pub returns-in-LacksColumn : goal.returns-in-LacksColumn
returns-in-LacksColumn g c =
    let fault = c.in-LacksColumn in
    let names = names_of c.args.names in
    rw fault.is (c.report_line.ensures
    (lacks_lines names fault.column fault.line fault.header fault.nearest)
    (IfOk-weaker c.lacks_lines-message.result _ _
    (λ message is. is
    ∙ ap (λ found. lacks_lines names fault.column fault.line found fault.nearest)
    c.as_str.ensures.value)
    c.lacks_lines-message.ensures))

pub returns-in-BadRecord : goal.returns-in-BadRecord
returns-in-BadRecord g c =
    let fault = c.in-BadRecord in
    rw fault.is (c.report_line-in-BadRecord.ensures
    (fields_line fault.line fault.fields fault.width) c.fields_line-message.ensures)

pub returns-in-HasColumn : goal.returns-in-HasColumn
returns-in-HasColumn g c =
    let fault = c.in-HasColumn in
    rw fault.is (c.report_line-in-HasColumn.ensures (has_line fault.line fault.column)
    c.has_line.ensures)
