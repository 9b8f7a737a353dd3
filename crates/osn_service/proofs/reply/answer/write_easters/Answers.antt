use Rattle.std.proofs.Common.{[], ◌∷◌, ◌++◌, ◌∙◌, ap, codes, map}
use Rattle.json.specs.Print.{escape_byte}
use Rattle.serde_json.specs.Written.{compact_text}
use Rattle.serde_json.specs.Data.{boolean, no_members}
use Rattle.osn_request.specs.Json.{list_data}
use Rattle.osn_service.specs.ReplyText as spec
use Rattle.osn_service.specs.SourceInside.{source_text}
use Rattle.osn_request.proofs.WriteLemmas.{at_last}
use Rattle.osn_service.proofs.LineLemmas.{chain, joined, source_before}
use Rattle.osn_service.proofs.reply.answer.write_easters.Goals as goal

pub returns-clause-text : goal.returns-clause-text
unfolding escape_byte
returns-clause-text c =
    let old = c.args.out.now.text in
    let source = c.args.source.now in
    let days = compact_text (list_data (map spec.found_data c.args.days.now)) in
    let listed = compact_text (boolean c.args.listed) in
    at_last c.push.result c.push.ensures.text
    (λ e. rw (
      e,
      c.in_ok-write_source.ensures.text,
      c.in_ok-write_flag.ensures.text,
      c.in_ok-write_list.ensures.text,
    )
    (chain old
    ((codes "{\"answer\":{\"days\":", days)
    ∷ (codes ",\"listed\":", listed)
    ∷ ([], source_text source)
    ∷ [])
    (codes "}")
    ∙ ap (λ l. old
    ++ joined ((codes "{\"answer\":{\"days\":", days) ∷ (codes ",\"listed\":", listed) ∷ []) l)
    (source_before source no_members)))
