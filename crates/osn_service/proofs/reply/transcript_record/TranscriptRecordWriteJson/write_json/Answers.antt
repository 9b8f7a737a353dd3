use Rattle.std.proofs.Common.{[], ◌∷◌, ◌++◌, codes, ap, ◌∙◌, append_assoc}
use Rattle.json.specs.Print.{escape_byte}
use Rattle.serde_json.specs.Written.{compact_text}
use Rattle.osn_service.specs.ReplyText.{replied_data}
use Rattle.osn_service.specs.Transcript as spec
use Rattle.osn_request.proofs.WriteLemmas.{at_last}
use Rattle.osn_service.proofs.LineLemmas.{chain}
use Rattle.osn_service.proofs.reply.transcript_record.TranscriptRecordWriteJson.write_json.Goals as goal

pub returns-clause-text : goal.returns-clause-text
unfolding escape_byte
returns-clause-text c =
    let asked = c.args.self.now in
    let old = c.args.out.now.text in
    let query = compact_text (spec.query_data asked.reader asked.query.now) in
    let reply =
    compact_text (replied_data asked.reader asked.reply.now.edition asked.reply.now.answer) in
    let before = codes "{\"ask\":" in
    let between = codes ",\"reply\":" in
    at_last c.push-3.result c.push-3.ensures.text
    (λ e. rw (
      e,
      c.in_ok-write_reply.ensures.text,
      c.in_ok-push-2.ensures.text,
      c.in_ok-write_query.ensures.text,
      c.in_ok-push.ensures.text,
    )
    (ap (λ l. ((l ++ between) ++ reply) ++ codes "}") (append_assoc old before query)
    ∙ (ap (λ l. l ++ codes "}") (append_assoc (old ++ (before ++ query)) between reply)
    ∙ chain old ((before, query) ∷ (between, reply) ∷ []) (codes "}"))))
