use Rattle.std.proofs.Common.{[], ◌∷◌, codes}
use Rattle.json.specs.Print.{escape_byte, quoted}
use Rattle.osn_days.specs.CalendarWords.{calendar_word}
use Rattle.osn_computus.specs.RuleWords.{rule_word}
use Rattle.osn_territory.specs.StyleWords.{style_word}
use Rattle.osn_request.proofs.WriteLemmas.{at_last}
use Rattle.osn_service.proofs.LineLemmas.{chain}
use Rattle.osn_service.proofs.reply.period.RegimeWriteJson.write_json.Goals as goal

pub returns-clause-text : goal.returns-clause-text
unfolding escape_byte
returns-clause-text c =
    let regime = c.args.self.now in
    at_last c.push.result c.push.ensures.text
    (λ e. rw (
      e,
      c.in_ok-push_text-3.ensures.text,
      c.in_ok-push_text-2.ensures.text,
      c.in_ok-push_text.ensures.text,
      c.word.ensures,
      c.word-2.ensures,
      c.word-3.ensures,
    )
    (chain c.args.out.now.text
    ((codes "{\"calendar\":", quoted (calendar_word regime.calendar))
    ∷ (codes ",\"rule\":", quoted (rule_word regime.rule))
    ∷ (codes ",\"style\":", quoted (style_word regime.style))
    ∷ [])
    (codes "}")))
