use Rattle.std.proofs.Common.{◌≡◌, codes, string_bytes, subst, IfOk}
use Rattle.osn_page_commands.specs.Letters.{column_line}
use Rattle.osn_page_commands.proofs.table_faults.has_line.Goals as goal

pub returns : goal.returns
returns c =
    subst (λ name. IfOk c.column_line.result (λ message. string_bytes message
    ≡ column_line c.args.line name (codes
    "is already there: remove it, rename it, or replace all twelve with --replace")))
    c.name-name.ensures c.column_line.ensures
