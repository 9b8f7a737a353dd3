use Rattle.std.proofs.Common.{[], ◌∷◌, ◌≡◌, codes, decimal, to_z, of_z, w64, rules}
use Rattle.json.specs.Print.{escape_byte, quoted}
use Rattle.serde_json.specs.Written.{compact_text}
use Rattle.osn_request.specs.Json.{signed}
use Rattle.osn_request.proofs.WriteLemmas.{at_last}
use Rattle.osn_service.proofs.LineLemmas.{chain}
use Rattle.osn_service.proofs.reply.transcript_record.write_feasts.Goals as goal

pub returns-clause-text : goal.returns-clause-text
unfolding escape_byte
returns-clause-text c =
    let year : to_z w64 (of_z w64 c.args.year) ≡ c.args.year = search rules in
    at_last c.push.result c.push.ensures.text
    (λ e. rw (
      e,
      c.in_ok-push_signed.ensures.text,
      c.in_ok-push_number.ensures.text,
      c.in_ok-push_text-2.ensures.text,
      c.in_ok-push_text.ensures.text,
      c.as_str.ensures.value,
      year,
    )
    (chain c.args.out.now.text
    ((codes "{\"code\":", quoted c.args.code.now)
    ∷ (codes ",\"op\":", quoted (codes "feasts"))
    ∷ (codes ",\"reader\":", decimal c.args.reader)
    ∷ (codes ",\"year\":", compact_text (signed c.args.year))
    ∷ [])
    (codes "}")))
