use Rattle.std.proofs.Common.{[], ◌∷◌, codes, decimal}
use Rattle.json.specs.Print.{escape_byte, quoted}
use Rattle.osn_request.specs.RefusalMessages.{query_message}
use Rattle.osn_register.specs.Refusal.{refusal_number, refusal_name}
use Rattle.osn_request.proofs.WriteLemmas.{at_last}
use Rattle.osn_service.proofs.LineLemmas.{chain}
use Rattle.osn_service.proofs.reply.rejection.write_refused_query.Goals as goal

pub returns-clause-text : goal.returns-clause-text
unfolding escape_byte
returns-clause-text c =
    at_last c.push.result c.push.ensures.text
    (λ e. rw (
      e,
      c.in_ok-push_number-3.ensures.text,
      c.in_ok-push_text-2.ensures.text,
      c.in_ok-push_text.ensures.text,
      c.in_ok-push_number-2.ensures.text,
      c.in_ok-push_number.ensures.text,
      c.from.ensures,
      c.number.ensures,
      c.query_message.ensures,
      c.name.ensures,
    )
    (chain c.args.out.now.text
    ((codes "{\"edition\":", decimal c.args.edition)
    ∷ (codes ",\"fault\":", decimal (refusal_number c.args.refusal))
    ∷ (codes ",\"message\":", quoted (query_message c.args.refusal))
    ∷ (codes ",\"name\":", quoted (refusal_name c.args.refusal))
    ∷ (codes ",\"reader\":", decimal c.args.reader)
    ∷ [])
    (codes "}")))
