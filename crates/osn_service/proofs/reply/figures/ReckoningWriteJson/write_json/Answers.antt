use Rattle.std.proofs.Common.{[], ◌∷◌, codes, decimal}
use Rattle.json.specs.Print.{escape_byte, quoted}
use Rattle.serde_json.specs.Written.{compact_text}
use Rattle.osn_computus.specs.FigureTexts.{letters_text}
use Rattle.osn_request.proofs.WriteLemmas.{at_last}
use Rattle.osn_service.proofs.LineLemmas.{chain}
use Rattle.osn_service.proofs.reply.figures.ReckoningWriteJson.write_json.Goals as goal

pub returns-clause-text : goal.returns-clause-text
unfolding escape_byte
returns-clause-text g c =
    at_last c.push.result c.push.ensures.text
    (λ e. rw (
      e,
      c.in_ok-push_text.ensures.text,
      c.in_ok-write_member.ensures.text,
      c.in_ok-push_number.ensures.text,
      c.number.ensures.value,
      c.as_str.ensures.value,
      c.in_ok-letters.ensures,
    )
    (chain c.args.out.now.text
    ((codes "{\"easter\":", decimal c.args.self.now.easter)
    ∷ (codes ",\"epact\":", compact_text (g.E.WriteJson.json_value c.args.self.now.epact))
    ∷ (codes ",\"letters\":", quoted (letters_text c.args.self.now.letters))
    ∷ [])
    (codes "}")))
