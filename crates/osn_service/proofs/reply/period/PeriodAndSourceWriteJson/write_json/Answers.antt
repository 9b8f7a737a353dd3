use Rattle.std.proofs.Common.{[], ◌∷◌, ◌++◌, ◌∙◌, ap, codes, decimal}
use Rattle.json.specs.Print.{escape_byte, quoted}
use Rattle.serde_json.specs.Data.{string, member, no_members}
use Rattle.osn_days.specs.CalendarWords.{calendar_word}
use Rattle.osn_computus.specs.RuleWords.{rule_word}
use Rattle.osn_territory.specs.StyleWords.{style_word}
use Rattle.osn_request.proofs.WriteLemmas.{at_last}
use Rattle.osn_service.specs.SourceInside.{source_text}
use Rattle.osn_service.proofs.LineLemmas.{chain, joined, source_before}
use Rattle.osn_service.proofs.reply.period.PeriodAndSourceWriteJson.write_json.Goals as goal

pub returns-clause-text : goal.returns-clause-text
unfolding escape_byte
returns-clause-text c =
    let old = c.args.out.now.text in
    let period = c.args.self.now.period in
    let source = c.args.self.now.source in
    let calendar = quoted (calendar_word period.regime.calendar) in
    let rule = quoted (rule_word period.regime.rule) in
    let style = style_word period.regime.style in
    at_last c.push.result c.push.ensures.text
    (λ e. rw (
      e,
      c.in_ok-push_text-3.ensures.text,
      c.in_ok-write_source.ensures.text,
      c.in_ok-push_text-2.ensures.text,
      c.in_ok-push_number-2.ensures.text,
      c.in_ok-push_number.ensures.text,
      c.in_ok-push_text.ensures.text,
      c.word.ensures,
      c.word-2.ensures,
      c.word-3.ensures,
      c.number.ensures.value,
      c.number-2.ensures.value,
    )
    (chain old
    ((codes "{\"calendar\":", calendar)
    ∷ (codes ",\"first\":", decimal period.first)
    ∷ (codes ",\"last\":", decimal period.last)
    ∷ (codes ",\"rule\":", rule)
    ∷ ([], source_text source)
    ∷ (codes ",\"style\":", quoted style)
    ∷ [])
    (codes "}")
    ∙ ap (λ l. old
    ++ joined ((codes "{\"calendar\":", calendar)
    ∷ (codes ",\"first\":", decimal period.first)
    ∷ (codes ",\"last\":", decimal period.last)
    ∷ (codes ",\"rule\":", rule)
    ∷ []) l)
    (source_before source (member (codes "style") (string style) no_members))))
