use Rattle.std.proofs.Common.{◌∙◌}
use Rattle.std.proofs.lemmas.Result.{IfOk-weaker}
use Rattle.osn_days.specs.Rules.{newest_rules}
use Rattle.osn_letters.specs.TableInside.{source_of}
use Rattle.osn_letters.proofs.TableFacts.{same_fields}
use Rattle.osn_letters.proofs.table.Table.letter_with_date.Goals as goal

pub returns : goal.returns
returns c =
    let s = source_of c.args.self.now in
    IfOk-weaker c.row_fields.result _ _
    (λ fields is. is ∙ same_fields newest_rules s.territories s.edition s.order s.places _ _
    c.args.date.now _ _ c.place_in.ensures c.weekday_at.ensures) c.row_fields.ensures.value
