use Rattle.std.proofs.Common.{[], ◌∷◌, codes, decimal}
use Rattle.json.specs.Print.{escape_byte}
use Rattle.serde_json.specs.Written.{compact_text}
use Rattle.serde_json.specs.Data.{string}
use Rattle.osn_computus.specs.FigureTexts.{epact_text}
use Rattle.osn_request.specs.Json.{whole}
use Rattle.osn_service.specs.ReplyText as spec
use Rattle.osn_request.proofs.WriteLemmas.{at_last}
use Rattle.osn_service.proofs.LineLemmas.{chain}
use Rattle.osn_service.proofs.reply.answer.write_figures.Goals as goal

pub returns-clause-text : goal.returns-clause-text
unfolding escape_byte
returns-clause-text c =
    let gregorian = c.args.gregorian.now in
    let julian = c.args.julian.now in
    at_last c.push.result c.push.ensures.text
    (λ e. rw (
      e,
      c.in_ok-push_number-3.ensures.text,
      c.in_ok-write_member-2.ensures.text,
      c.in_ok-push_number-2.ensures.text,
      c.in_ok-write_member.ensures.text,
      c.in_ok-push_number.ensures.text,
      c.from.ensures,
      c.from-2.ensures,
      c.number.ensures.value,
    )
    (chain c.args.out.now.text
    ((codes "{\"answer\":{\"golden\":", decimal c.args.golden)
    ∷ (
      codes ",\"gregorian\":",
      compact_text
          (spec.reckoning_data gregorian.easter (string (epact_text gregorian.epact))
          gregorian.letters),
    )
    ∷ (codes ",\"indiction\":", decimal c.args.indiction)
    ∷ (
      codes ",\"julian\":",
      compact_text (spec.reckoning_data julian.easter (whole julian.epact) julian.letters),
    )
    ∷ (codes ",\"year\":", decimal c.args.year)
    ∷ [])
    (codes "}")))
