use Rattle.std.proofs.Common.{[], ◌∷◌, ◌++◌, ◌∙◌, ap, codes, decimal}
use Rattle.json.specs.Print.{escape_byte}
use Rattle.serde_json.specs.Data.{member, no_members}
use Rattle.serde_json.specs.Written.{compact_text}
use Rattle.osn_request.specs.Json.{whole}
use Rattle.osn_request.proofs.WriteLemmas.{at_last}
use Rattle.osn_service.specs.ReplyText.{found_data}
use Rattle.osn_service.specs.SourceInside.{source_text}
use Rattle.osn_service.proofs.LineLemmas.{chain, joined, source_before}
use Rattle.osn_service.proofs.reply.found.ExceptionWriteJson.write_json.Goals as goal

pub returns-clause-text : goal.returns-clause-text
unfolding escape_byte
returns-clause-text c =
    let old = c.args.out.now.text in
    let found = compact_text (found_data c.args.self.now.found) in
    let source = c.args.self.now.source in
    let year = c.args.self.now.year in
    at_last c.push.result c.push.ensures.text
    (λ e. rw (
      e,
      c.in_ok-push_number.ensures.text,
      c.in_ok-write_source.ensures.text,
      c.in_ok-write_member.ensures.text,
      c.number.ensures.value,
    )
    (chain old
    ((codes "{\"found\":", found)
    ∷ ([], source_text source)
    ∷ (codes ",\"year\":", decimal year)
    ∷ [])
    (codes "}")
    ∙ ap (λ l. old ++ joined ((codes "{\"found\":", found) ∷ []) l)
    (source_before source (member (codes "year") (whole year) no_members))))
