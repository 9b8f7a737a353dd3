use Rattle.std.proofs.Common.{[], ◌∷◌, ◌++◌, ◌∙◌, ap, codes}
use Rattle.json.specs.Print.{escape_byte}
use Rattle.serde_json.specs.Data.{member, no_members}
use Rattle.serde_json.specs.Written.{compact_text}
use Rattle.osn_request.specs.Json.{whole}
use Rattle.osn_request.proofs.WriteLemmas.{at_last}
use Rattle.osn_service.specs.ReplyText.{found_data, option_data, regime_data}
use Rattle.osn_service.specs.SourceInside.{source_text}
use Rattle.osn_service.proofs.LineLemmas.{chain, joined, source_before}
use Rattle.osn_service.proofs.reply.change.FoundChangeWriteJson.write_json.Goals as goal

pub returns-clause-text : goal.returns-clause-text
unfolding escape_byte
returns-clause-text c =
    let old = c.args.out.now.text in
    let change = c.args.self.now in
    let before = compact_text (found_data change.before) in
    let found = compact_text (found_data change.found) in
    let left_out = compact_text (option_data whole change.left_out) in
    let regime = compact_text (regime_data change.regime) in
    let regime_before = compact_text (regime_data change.regime_before) in
    let source = change.source in
    let twice = option_data whole change.twice in
    at_last c.push.result c.push.ensures.text
    (λ e. rw (
      e,
      c.in_ok-write_member-6.ensures.text,
      c.in_ok-write_source.ensures.text,
      c.in_ok-write_member-5.ensures.text,
      c.in_ok-write_member-4.ensures.text,
      c.in_ok-write_member-3.ensures.text,
      c.in_ok-write_member-2.ensures.text,
      c.in_ok-write_member.ensures.text,
    )
    (chain old
    ((codes "{\"before\":", before)
    ∷ (codes ",\"found\":", found)
    ∷ (codes ",\"left_out\":", left_out)
    ∷ (codes ",\"regime\":", regime)
    ∷ (codes ",\"regime_before\":", regime_before)
    ∷ ([], source_text source)
    ∷ (codes ",\"twice\":", compact_text twice)
    ∷ [])
    (codes "}")
    ∙ ap (λ l. old
    ++ joined ((codes "{\"before\":", before)
    ∷ (codes ",\"found\":", found)
    ∷ (codes ",\"left_out\":", left_out)
    ∷ (codes ",\"regime\":", regime)
    ∷ (codes ",\"regime_before\":", regime_before)
    ∷ []) l)
    (source_before source (member (codes "twice") twice no_members))))
