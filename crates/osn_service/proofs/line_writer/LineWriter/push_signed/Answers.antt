use Rattle.std.proofs.Common.{◌≡◌, to_z, of_z, w64, rules, append_assoc}
use Rattle.serde_json.specs.Written.{compact_text}
use Rattle.osn_request.specs.Json.{signed}
use Rattle.osn_request.proofs.WriteLemmas.{at_last}
use Rattle.osn_service.proofs.LineLemmas.{signed_text}
use Rattle.osn_service.proofs.line_writer.LineWriter.push_signed.Goals as goal

pub returns-clause-text : goal.returns-clause-text
returns-clause-text c =
    let number : to_z w64 (of_z w64 c.args.number) ≡ c.args.number = search rules in
    at_last c.push-2.result c.push-2.ensures.text
    (λ e. rw (
      e,
      c.in_ok-push.ensures.text,
      c.format.ensures.text,
      number,
      signed_text c.args.number,
    )
    (append_assoc c.args.self.now.text c.args.front.now (compact_text (signed c.args.number))))
