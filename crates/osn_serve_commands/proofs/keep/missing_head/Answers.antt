use Rattle.std.proofs.Common.{rules}
use Rattle.std.proofs.lemmas.Result.{IfOk-weaker}
use Rattle.osn_serve_commands.proofs.KeptFileLemmas.{head_missing, head_not_missing}
use Rattle.osn_serve_commands.proofs.keep.missing_head.Goals as goal

pub returns-then-part-eq0 : goal.returns-then-part-eq0
returns-then-part-eq0 c =
    IfOk-weaker c.head_line.result _ _
    (λ head is content whole. head_missing c.args.part content head.items c.if-part-eq0.true is
    whole)
    c.head_line.ensures

pub returns : goal.returns
returns c = λ content whole.
    head_not_missing c.args.part content c.new.result.items c.if-part-eq0.false (search rules) whole
