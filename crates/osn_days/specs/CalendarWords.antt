-- The words of calendars, in a line and in a reply: this project's profile.
use Rattle.std.specs.Prelude.{ℕ, List, [], ◌∷◌, codes, Option}
use Rattle.osn_days.specs.declared.calendar.Calendar.{Calendar}
use Rattle.osn_days.specs.declared.calendar.Calendar.TheVariants.{Julian, Gregorian, Swedish}
use Rattle.osn_days.specs.Keyword.{written_by}

abbrev pub calendar_word : Calendar → List ℕ
calendar_word Julian = codes "julian"
calendar_word Gregorian = codes "gregorian"
calendar_word Swedish = codes "swedish"

-- the calendar that is written by a word
abbrev pub calendar_named : List ℕ → Option Calendar
calendar_named = written_by calendar_word (Julian ∷ Gregorian ∷ Swedish ∷ [])
