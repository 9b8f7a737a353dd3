use Rattle.std.proofs.lemmas.Result.{IfErr-weaker}
use Rattle.osn_letters.proofs.table.Table.take.Goals as goal

pub returns-in-Some-clause-refuses : goal.returns-in-Some-clause-refuses
returns-in-Some-clause-refuses c =
    IfErr-weaker c.take_row.result _ _ (λ fault refuses. refuses c.args.separator)
    c.take_row.ensures.refuses
