use Rattle.std.proofs.Common.{◌≡◌, ◌∙◌, ◌++◌, ◌-◌, ap, arith}
use Rattle.csv.specs.Records.{fields_of}
use Rattle.osn_letters.specs.Table.{fields_from}
use Rattle.osn_letters.proofs.FlawFacts.{three_parts}
use Rattle.osn_letters.proofs.table.flawed_row.Goals as goal

pub returns : goal.returns
returns c =
    let row = fields_of c.args.row.now in
    let own = c.args.rows.columns.own in
    let all : own - 0 ≡ own = omega arith in
    three_parts _ _ _ _ _ _
    (c.in_ok-push_fields.ensures.fields
    ∙ ap (λ l. l ++ fields_from row 0 (own - 0)) c.new-made.ensures.fields
    ∙ ap (fields_from row 0) all)
    c.in_ok-push_to.ensures.fields
    (c.in_ok-push_fields-2.ensures.fields
    ∙ ap (λ n. fields_of c.push_to.new.row ++ fields_from row c.args.rows.width
    (n - c.args.rows.width)) c.len.ensures)
