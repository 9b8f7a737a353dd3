use Rattle.std.proofs.Common.{[], ◌∷◌, codes, map}
use Rattle.json.specs.Print.{escape_byte}
use Rattle.serde_json.specs.Written.{compact_text}
use Rattle.osn_request.specs.Json.{whole, list_data}
use Rattle.osn_service.specs.ReplyText as spec
use Rattle.osn_request.proofs.WriteLemmas.{at_last}
use Rattle.osn_service.proofs.LineLemmas.{chain}
use Rattle.osn_service.proofs.reply.answer.write_reading.Goals as goal

pub returns-clause-text : goal.returns-clause-text
unfolding escape_byte
returns-clause-text c =
    at_last c.push.result c.push.ensures.text
    (λ e. rw (
      e,
      c.in_ok-write_list-2.ensures.text,
      c.in_ok-write_list.ensures.text,
    )
    (chain c.args.out.now.text
    ((
      codes "{\"answer\":{\"days\":",
      compact_text (list_data (map spec.found_data c.args.days.now)),
    )
    ∷ (codes ",\"skipped\":", compact_text (list_data (map whole c.args.skipped.now)))
    ∷ [])
    (codes "}")))
