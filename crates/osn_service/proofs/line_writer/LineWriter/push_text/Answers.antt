use Rattle.std.proofs.Common.{sym, ◌∙◌}
use Rattle.osn_service.proofs.LineLemmas.{escape-plain}
use Rattle.osn_service.proofs.line_writer.LineWriter.push_text.Goals as goal

pub push_plain-requires-clause-plain : goal.push_plain-requires-clause-plain
push_plain-requires-clause-plain c =
    escape-plain c.as_bytes-bytes.result.now
    (sym c.is_plain_text.ensures ∙ c.if-is_plain_text.true)
