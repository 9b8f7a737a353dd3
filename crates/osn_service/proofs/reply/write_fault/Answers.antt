use Rattle.std.proofs.Common.{[], ◌∷◌, codes, decimal}
use Rattle.json.specs.Print.{escape_byte, quoted}
use Rattle.osn_request.specs.Member.{member_name}
use Rattle.osn_request.proofs.WriteLemmas.{at_last}
use Rattle.osn_service.proofs.LineLemmas.{chain}
use Rattle.osn_service.proofs.reply.write_fault.Goals as goal

pub returns-in_ok-push_text-in-BadField-2-clause-text :
    goal.returns-in_ok-push_text-in-BadField-2-clause-text
unfolding escape_byte
returns-in_ok-push_text-in-BadField-2-clause-text c =
    at_last c.push.result c.push.ensures.text
    (λ e. rw (
      e,
      c.in_ok-push_text-in-BadField-2.ensures.text,
      c.in_ok-push_text-in-BadField.ensures.text,
      c.in_ok-push_number-in-BadField.ensures.text,
      c.from.ensures,
      c.number.ensures,
      c.name.ensures,
      c.name-in-BadField.ensures,
      c.in-BadField.is,
    )
    (chain c.args.out.now.text
    ((codes "{\"fault\":", decimal 34)
    ∷ (codes ",\"field\":", quoted (member_name c.in-BadField.member))
    ∷ (codes ",\"name\":", quoted (codes "BadField"))
    ∷ [])
    (codes "}")))
