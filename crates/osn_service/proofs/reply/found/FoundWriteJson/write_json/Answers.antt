use Rattle.std.proofs.Common.{[], ◌∷◌, codes, decimal}
use Rattle.json.specs.Print.{escape_byte, quoted}
use Rattle.osn_days.specs.declared.calendar.Calendar.TheVariants.{Julian, Gregorian}
use Rattle.osn_days.specs.Chain.{date_of}
use Rattle.osn_days.specs.Line.{weekday, julian_day}
use Rattle.osn_days.specs.Weekday.{weekday_name, weekday_numbered}
use Rattle.osn_days.specs.DateText.{date_text, text_of_date}
use Rattle.osn_request.proofs.WriteLemmas.{at_last}
use Rattle.osn_service.proofs.LineLemmas.{chain}
use Rattle.osn_service.proofs.reply.found.FoundWriteJson.write_json.Goals as goal

pub returns-clause-text : goal.returns-clause-text
unfolding escape_byte
returns-clause-text c =
    let found = c.args.self.now in
    at_last c.push.result c.push.ensures.text
    (λ e. rw (
      e,
      c.in_ok-push_text-2.ensures.text,
      c.in_ok-write_label.ensures.text,
      c.in_ok-write_date_of-2.ensures.text,
      c.in_ok-push_number-2.ensures.text,
      c.in_ok-write_date_of.ensures.text,
      c.in_ok-push_text.ensures.text,
      c.in_ok-push_number.ensures.text,
      c.number.ensures.value,
      c.as_str.ensures.value,
      c.julian_day_number.ensures,
      c.name.ensures,
      c.weekday.ensures,
    )
    (chain c.args.out.now.text
    ((codes "{\"day\":", decimal found.day)
    ∷ (codes ",\"dual\":", quoted found.dual)
    ∷ (codes ",\"gregorian\":", quoted (text_of_date (date_of Gregorian found.day)))
    ∷ (codes ",\"jdn\":", decimal (julian_day found.day))
    ∷ (codes ",\"julian\":", quoted (text_of_date (date_of Julian found.day)))
    ∷ (codes ",\"label\":", quoted (date_text found.label.year found.label.month found.label.day))
    ∷ (codes ",\"weekday\":", quoted (weekday_name (weekday_numbered (weekday found.day))))
    ∷ [])
    (codes "}")))
