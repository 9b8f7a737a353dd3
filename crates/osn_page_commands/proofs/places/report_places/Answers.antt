use Rattle.std.proofs.Common.{◌∙◌, ap}
use Rattle.std.proofs.lemmas.Result.{IfOk-weaker}
use Rattle.osn_page_commands.specs.Places.{codes_line, fields_line, lacks_line}
use Rattle.osn_page_commands.proofs.places.report_places.Goals as goal

pub returns-in-LacksColumn : goal.returns-in-LacksColumn
returns-in-LacksColumn g c =
    let fault = c.in-LacksColumn in
    let path = c.args.path.now in
    rw fault.is (c.report_line.ensures (lacks_line path fault.column fault.line fault.header)
    (IfOk-weaker c.lacks_line-message.result _ _
    (λ message is. is ∙ ap (lacks_line path fault.column fault.line) c.as_str.ensures.value)
    c.lacks_line-message.ensures))

pub returns-in-BadRecord : goal.returns-in-BadRecord
returns-in-BadRecord g c =
    let fault = c.in-BadRecord in
    rw fault.is (c.report_line-in-BadRecord.ensures
    (fields_line c.args.path.now fault.line fault.fields fault.width)
    c.fields_line-message.ensures)

pub returns-in-TwoCodes : goal.returns-in-TwoCodes
returns-in-TwoCodes g c =
    let fault = c.in-TwoCodes in
    let path = c.args.path.now in
    rw fault.is (c.report_line-in-TwoCodes.ensures (codes_line path fault.line fault.place)
    (IfOk-weaker c.codes_line-message.result _ _
    (λ message is. is ∙ ap (codes_line path fault.line) c.as_str-in-TwoCodes.ensures.value)
    c.codes_line-message.ensures))
