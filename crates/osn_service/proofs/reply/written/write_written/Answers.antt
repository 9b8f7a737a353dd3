use Rattle.std.proofs.Common.{[], ◌∷◌, codes, map}
use Rattle.json.specs.Print.{escape_byte, quoted}
use Rattle.serde_json.specs.Written.{compact_text}
use Rattle.serde_json.specs.Data.{boolean, string}
use Rattle.osn_request.specs.Json.{whole, list_data}
use Rattle.osn_service.specs.ReplyText as spec
use Rattle.osn_request.proofs.WriteLemmas.{at_last}
use Rattle.osn_service.proofs.LineLemmas.{chain}
use Rattle.osn_service.proofs.reply.written.write_written.Goals as goal

pub returns-clause-text : goal.returns-clause-text
unfolding escape_byte
returns-clause-text c =
    let w = c.args.answer.now in
    at_last c.push.result c.push.ensures.text
    (λ e. rw (
      e,
      c.in_ok-write_list-5.ensures.text,
      c.in_ok-write_member-4.ensures.text,
      c.in_ok-write_flag-7.ensures.text,
      c.in_ok-write_flag-6.ensures.text,
      c.in_ok-write_flag-5.ensures.text,
      c.in_ok-write_list-4.ensures.text,
      c.in_ok-write_list-3.ensures.text,
      c.in_ok-write_member-3.ensures.text,
      c.in_ok-write_list-2.ensures.text,
      c.in_ok-write_flag-4.ensures.text,
      c.in_ok-write_flag-3.ensures.text,
      c.in_ok-write_list.ensures.text,
      c.in_ok-write_member-2.ensures.text,
      c.in_ok-write_member.ensures.text,
      c.in_ok-push_text.ensures.text,
      c.in_ok-write_flag-2.ensures.text,
      c.in_ok-write_flag.ensures.text,
      c.word_of_kind.ensures,
      c.as_slice.ensures,
      c.as_slice-2.ensures,
      c.as_slice-3.ensures,
      c.as_slice-4.ensures,
      c.as_slice-5.ensures,
    )
    (chain c.args.out.now.text
    ((codes "{\"answer\":{\"approximate\":", compact_text (boolean w.is_approximate))
    ∷ (codes ",\"ends_in_next_year\":", compact_text (boolean w.remarks.ends_in_next_year))
    ∷ (codes ",\"kind\":", quoted (spec.word_of_kind w.kind))
    ∷ (
      codes ",\"named_calendar\":",
      compact_text (spec.option_data spec.named_calendar_data w.remarks.reckoning),
    )
    ∷ (
      codes ",\"named_weekday\":",
      compact_text (spec.option_data spec.weekday_data w.remarks.weekday),
    )
    ∷ (codes ",\"nearest\":", compact_text (list_data (map spec.found_data w.near.days)))
    ∷ (codes ",\"not_counted_double\":", compact_text (boolean w.remarks.is_not_counted_double))
    ∷ (codes ",\"other_calendar\":", compact_text (boolean w.is_by_other_calendar))
    ∷ (codes ",\"read_as\":", compact_text (list_data (map string w.remarks.read_as)))
    ∷ (codes ",\"reason\":", compact_text (spec.option_data spec.reason_data w.reason))
    ∷ (codes ",\"runs\":", compact_text (list_data (map spec.found_run_data w.runs)))
    ∷ (codes ",\"skipped\":", compact_text (list_data (map whole w.near.changes)))
    ∷ (codes ",\"supplied\":", compact_text (boolean w.is_supplied))
    ∷ (codes ",\"three_digits\":", compact_text (boolean w.remarks.has_year_of_three_digits))
    ∷ (codes ",\"uncertain\":", compact_text (boolean w.is_uncertain))
    ∷ (codes ",\"weekday\":", compact_text (spec.option_data boolean w.is_on_weekday))
    ∷ (codes ",\"year\":", compact_text (list_data (map spec.found_run_data w.near.year)))
    ∷ [])
    (codes "}")))
