-- Why a written date means no day in a territory. This project's profile.
use Rattle.std.specs.Prelude.{ℕ, Bool, ◌&&◌, not, if◌then◌else◌, List, [], ◌∷◌}
use Rattle.std.specs.List.{list_any}
use Rattle.osn_days.specs.Rules.{Rules}
use Rattle.osn_territory.specs.declared.label.Label.{Label}
use Rattle.osn_territory.specs.LabelOrder.{gaps, is_off_line}
use Rattle.osn_territory.specs.MonthDay.{has_month_day}
use Rattle.osn_territory.specs.Territory.{TerritoryModel, reading, is_empty}
use Rattle.osn_written.specs.declared.absence.Absence.{Absence}
use Rattle.osn_written.specs.declared.absence.Absence.TheVariants as why
use Rattle.osn_written.specs.declared.written_date.WrittenDate.{WrittenDate}
use Rattle.osn_written.specs.Meaning.{label_of}

-- some regime of the territory has the month and day in some year
abbrev pub is_of_its_calendar : Rules → TerritoryModel → Label → Bool
is_of_its_calendar p t label =
    list_any (λ s. has_month_day p s.1.calendar label.month label.day) t.starts

-- the label lies in the gap of a change, or else the year lacks it
abbrev pub by_gaps : List ℕ → Absence
by_gaps [] = why.NotInThatYear
by_gaps (change ∷ changes) = why.Skipped

-- why no day is dated with a label
abbrev pub absence_of_label : Rules → TerritoryModel → Label → Absence
absence_of_label p t label =
    if not (is_of_its_calendar p t label) then why.NotOfItsCalendar
    else (if is_off_line p t label then why.OffTheLine else by_gaps (gaps p t label))

-- why a date that means no day means none
unfoldable pub absence : Rules → TerritoryModel → WrittenDate → Absence
absence p t w =
    if w.is_double && not (is_empty (reading p t (label_of w))) then why.NotWithBothYears
    else absence_of_label p t (label_of w)
