use Rattle.std.proofs.Common.{[], ◌∷◌, codes}
use Rattle.json.specs.Print.{escape_byte}
use Rattle.serde_json.specs.Written.{compact_text}
use Rattle.osn_service.specs.ReplyText as spec
use Rattle.osn_request.proofs.WriteLemmas.{at_last}
use Rattle.osn_service.proofs.LineLemmas.{chain}
use Rattle.osn_service.proofs.reply.found.FoundRunWriteJson.write_json.Goals as goal

pub returns-clause-text : goal.returns-clause-text
unfolding escape_byte
returns-clause-text c =
    at_last c.push.result c.push.ensures.text
    (λ e. rw (
      e,
      c.in_ok-write_member-2.ensures.text,
      c.in_ok-write_member.ensures.text,
    )
    (chain c.args.out.now.text
    ((codes "{\"first\":", compact_text (spec.found_data c.args.self.now.first))
    ∷ (codes ",\"last\":", compact_text (spec.found_data c.args.self.now.last))
    ∷ [])
    (codes "}")))
