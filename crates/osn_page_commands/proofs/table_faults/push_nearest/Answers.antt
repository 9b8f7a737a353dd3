use Rattle.std.proofs.Common.{◌≡◌, ◌++◌, ◌∙◌, ap, sym, subst, OnOk, Some, string_bytes}
use Rattle.osn_page_commands.specs.Letters.{nearest_line}
use Rattle.osn_page_commands.proofs.table_faults.push_nearest.Goals as goal

pub returns-in-Some : goal.returns-in-Some
returns-in-Some c =
    subst (λ text. OnOk c.writeln.result (string_bytes c.writeln.new.self
    ≡ string_bytes c.args.lines.now ++ nearest_line text))
    (ap Some c.as_str.ensures.value ∙ sym c.in-Some.is) c.writeln.ensures.bytes
