use Rattle.std.proofs.Common.{[], ◌∷◌, codes, decimal}
use Rattle.json.specs.Print.{escape_byte, quoted}
use Rattle.osn_days.specs.Weekday.{weekday_name}
use Rattle.osn_request.proofs.WriteLemmas.{at_last}
use Rattle.osn_service.proofs.LineLemmas.{chain}
use Rattle.osn_service.proofs.reply.transcript_record.write_written.Goals as goal

pub returns-in-None-clause-text : goal.returns-in-None-clause-text
unfolding escape_byte
returns-in-None-clause-text c =
    at_last c.push-in-None.result c.push-in-None.ensures.text
    (λ e. rw (
      e,
      c.in_ok-push_number.ensures.text,
      c.in_ok-push_text-3.ensures.text,
      c.in_ok-push_text-2.ensures.text,
      c.in_ok-push_text.ensures.text,
      c.as_str.ensures.value,
      c.as_str-2.ensures.value,
      c.in-None.is,
    )
    (chain c.args.out.now.text
    ((codes "{\"code\":", quoted c.args.code.now)
    ∷ (codes ",\"date\":", quoted c.args.text.now)
    ∷ (codes ",\"op\":", quoted (codes "written"))
    ∷ (codes ",\"reader\":", decimal c.args.reader)
    ∷ [])
    (codes "}")))

pub returns-in_ok-push_text-in-Some-clause-text : goal.returns-in_ok-push_text-in-Some-clause-text
unfolding escape_byte
returns-in_ok-push_text-in-Some-clause-text c =
    at_last c.push.result c.push.ensures.text
    (λ e. rw (
      e,
      c.in_ok-push_text-in-Some.ensures.text,
      c.in_ok-push_number.ensures.text,
      c.in_ok-push_text-3.ensures.text,
      c.in_ok-push_text-2.ensures.text,
      c.in_ok-push_text.ensures.text,
      c.as_str.ensures.value,
      c.as_str-2.ensures.value,
      c.name.ensures,
      c.in-Some.is,
    )
    (chain c.args.out.now.text
    ((codes "{\"code\":", quoted c.args.code.now)
    ∷ (codes ",\"date\":", quoted c.args.text.now)
    ∷ (codes ",\"op\":", quoted (codes "written"))
    ∷ (codes ",\"reader\":", decimal c.args.reader)
    ∷ (codes ",\"weekday\":", quoted (weekday_name c.in-Some.weekday))
    ∷ [])
    (codes "}")))
