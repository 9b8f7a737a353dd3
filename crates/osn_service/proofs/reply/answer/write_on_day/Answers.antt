use Rattle.std.proofs.Common.{[], ◌∷◌, ◌++◌, ◌∙◌, ap, codes, decimal}
use Rattle.json.specs.Print.{escape_byte}
use Rattle.serde_json.specs.Data.{no_members}
use Rattle.serde_json.specs.Written.{compact_text}
use Rattle.osn_service.specs.ReplyText as spec
use Rattle.osn_service.specs.SourceInside.{source_text}
use Rattle.osn_request.proofs.WriteLemmas.{at_last}
use Rattle.osn_service.proofs.LineLemmas.{chain, joined, source_before}
use Rattle.osn_service.proofs.reply.answer.write_on_day.Goals as goal

pub returns-clause-text : goal.returns-clause-text
unfolding escape_byte
returns-clause-text c =
    let old = c.args.out.now.text in
    let found = compact_text (spec.found_data c.args.day.now) in
    let period = c.args.period.now.period in
    let source = c.args.period.now.source in
    let regime = compact_text (spec.regime_data period.regime) in
    at_last c.push.result c.push.ensures.text
    (λ e. rw (
      e,
      c.in_ok-write_source.ensures.text,
      c.in_ok-write_member-2.ensures.text,
      c.in_ok-push_number-2.ensures.text,
      c.in_ok-write_member.ensures.text,
      c.in_ok-push_number.ensures.text,
      c.number.ensures.value,
      c.number-2.ensures.value,
    )
    (chain old
    ((codes "{\"answer\":{\"first\":", decimal period.first)
    ∷ (codes ",\"found\":", found)
    ∷ (codes ",\"last\":", decimal period.last)
    ∷ (codes ",\"regime\":", regime)
    ∷ ([], source_text source)
    ∷ [])
    (codes "}")
    ∙ ap (λ l. old
    ++ joined ((codes "{\"answer\":{\"first\":", decimal period.first)
    ∷ (codes ",\"found\":", found)
    ∷ (codes ",\"last\":", decimal period.last)
    ∷ (codes ",\"regime\":", regime)
    ∷ []) l)
    (source_before source no_members)))
