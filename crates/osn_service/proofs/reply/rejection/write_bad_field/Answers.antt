use Rattle.std.proofs.Common.{[], ◌∷◌, codes, decimal}
use Rattle.json.specs.Print.{escape_byte, quoted}
use Rattle.osn_request.specs.FaultMessages.{member_message}
use Rattle.osn_request.specs.Member.{member_name}
use Rattle.osn_request.proofs.WriteLemmas.{at_last}
use Rattle.osn_service.proofs.LineLemmas.{chain}
use Rattle.osn_service.proofs.reply.rejection.write_bad_field.Goals as goal

pub returns-clause-text : goal.returns-clause-text
unfolding escape_byte
returns-clause-text c =
    at_last c.push.result c.push.ensures.text
    (λ e. rw (
      e,
      c.in_ok-push_text-3.ensures.text,
      c.in_ok-push_text-2.ensures.text,
      c.in_ok-push_text.ensures.text,
      c.in_ok-push_number.ensures.text,
      c.from.ensures,
      c.number.ensures,
      c.name.ensures,
      c.fault_message.ensures,
      c.name-2.ensures,
    )
    (chain c.args.out.now.text
    ((codes "{\"fault\":", decimal 34)
    ∷ (codes ",\"field\":", quoted (member_name c.args.member))
    ∷ (codes ",\"message\":", quoted (member_message c.args.member))
    ∷ (codes ",\"name\":", quoted (codes "BadField"))
    ∷ [])
    (codes "}")))
