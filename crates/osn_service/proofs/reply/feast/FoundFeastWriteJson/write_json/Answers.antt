use Rattle.std.proofs.Common.{[], ◌∷◌, codes, decimal}
use Rattle.json.specs.Print.{escape_byte, quoted}
use Rattle.serde_json.specs.Written.{compact_text}
use Rattle.osn_written.specs.Feast.{feast_name}
use Rattle.osn_request.proofs.WriteLemmas.{at_last}
use Rattle.osn_service.specs.ReplyText.{found_data}
use Rattle.osn_service.proofs.LineLemmas.{chain}
use Rattle.osn_service.proofs.reply.feast.FoundFeastWriteJson.write_json.Goals as goal

pub returns-clause-text : goal.returns-clause-text
unfolding escape_byte
returns-clause-text c =
    let feast = c.args.self.now in
    at_last c.push.result c.push.ensures.text
    (λ e. rw (
      e,
      c.in_ok-push_number.ensures.text,
      c.in_ok-write_member.ensures.text,
      c.in_ok-push_text.ensures.text,
      c.name.ensures,
      c.number.ensures.value,
    )
    (chain c.args.out.now.text
    ((codes "{\"feast\":", quoted (feast_name feast.feast))
    ∷ (codes ",\"found\":", compact_text (found_data feast.found))
    ∷ (codes ",\"year\":", decimal feast.year)
    ∷ [])
    (codes "}")))
