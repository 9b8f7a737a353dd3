use Rattle.std.proofs.Common.{[], ◌∷◌, codes}
use Rattle.json.specs.Print.{escape_byte, quoted}
use Rattle.osn_request.proofs.WriteLemmas.{at_last}
use Rattle.osn_service.proofs.LineLemmas.{chain}
use Rattle.osn_service.proofs.reply.step_out.write_word.Goals as goal

pub returns-clause-text : goal.returns-clause-text
unfolding escape_byte
returns-clause-text c =
    at_last c.push.result c.push.ensures.text
    (λ e. rw (
      e,
      c.in_ok-push_text.ensures.text,
    )
    (chain c.args.out.now.text
    ((codes "{\"out\":", quoted c.args.word.now)
    ∷ [])
    (codes "}")))
