-- The place of a label among the days of a regime, whether a day has it or not, and the changes
-- whose gap contains it. This project's profile.
use Rattle.std.specs.Prelude.{ℕ, ◌-◌, ◌==◌, ◌&&◌, ◌||◌, nat_lt, Bool, false, not, if◌then◌else◌}
use Rattle.std.specs.Prelude.{ℤ, pos, ◌+ℤ◌, ◌-ℤ◌, int_lt, unsigned_abs, List, filter}
use Rattle.std.specs.Prelude.{Option, Some, None}
use Rattle.std.specs.Ordering.{int_eq}
use Rattle.osn_days.specs.declared.calendar.Calendar.{Calendar}
use Rattle.osn_days.specs.declared.date.Date.{Date}
use Rattle.osn_days.specs.Rules.{Rules}
use Rattle.osn_days.specs.Chain.{date_of}
use Rattle.osn_computus.specs.declared.rule.Rule.TheVariants as rules
use Rattle.osn_computus.specs.Easter.{easter_of}
use Rattle.osn_territory.specs.declared.style.Style.{Style}
use Rattle.osn_territory.specs.declared.style.Style.TheVariants.{January, Annunciation, Nativity}
use Rattle.osn_territory.specs.declared.style.Style.TheVariants.{September, Pisan, Easter}
use Rattle.osn_territory.specs.declared.regime.Regime.{Regime}
use Rattle.osn_territory.specs.declared.label.Label.{Label}
use Rattle.osn_territory.specs.Style.{is_before_25_march, is_from_25_december, is_from_september}
use Rattle.osn_territory.specs.Style.{style_year}
use Rattle.osn_territory.specs.Territory.{TerritoryModel, regime_at, skipped}

-- the date is before the other one
abbrev pub is_earlier : Date → Date → Bool
is_earlier a b =
    int_lt a.year b.year || (int_eq a.year b.year
    && (nat_lt a.month b.month || ((a.month == b.month) && nat_lt a.day b.day)))

abbrev pub is_dated_before : Calendar → Date → Option ℕ → Bool
is_dated_before c date None = false
is_dated_before c date (Some easter) = is_earlier date (date_of c easter)

-- the date is before that which the Easter day of its year by the Julian rule has in the calendar
abbrev pub is_dated_before_easter : Rules → Calendar → Date → Bool
is_dated_before_easter p c date =
    is_dated_before c date (easter_of p rules.Julian (unsigned_abs date.year))

-- the year is one that has an Easter
abbrev pub has_easter : Rules → ℤ → Bool
has_easter p y = not (int_lt y (pos 1)) && not (int_lt (pos p.last_year) y)

-- the year whose Easter parts the dates of a label's year. The line begins within year 0, and has
-- those of its dates alone that come before the Easter of year 1
abbrev pub parting_year : Label → ℤ
parting_year l = if int_lt l.year (pos 1) then pos 1 else l.year

-- the label's month and day, read as a date of the calendar in that year, are before its Easter by
-- the Julian rule. A year without an Easter has no such date
abbrev pub is_labelled_before_easter : Rules → Calendar → Label → Bool
is_labelled_before_easter p c l =
    has_easter p (parting_year l)
    && is_dated_before_easter p c
    (record { year = parting_year l; month = l.month; day = l.day })

-- the year counted from 1 January in which a style has the month and day of a year of its own
abbrev pub counted_year : Style → Label → Bool → ℤ
counted_year January l before_easter = l.year
counted_year Annunciation l before_easter =
    if is_before_25_march l.month l.day then l.year +ℤ pos 1 else l.year
counted_year Nativity l before_easter =
    if is_from_25_december l.month l.day then l.year -ℤ pos 1 else l.year
counted_year September l before_easter =
    if is_from_september l.month then l.year -ℤ pos 1 else l.year
counted_year Pisan l before_easter =
    if is_before_25_march l.month l.day then l.year else l.year -ℤ pos 1
counted_year Easter l before_easter = if before_easter then l.year +ℤ pos 1 else l.year

-- the date that the label is under the regime, whether the calendar has it or not
abbrev pub label_date : Rules → Regime → Label → Date
label_date p r l = record {
  year = counted_year r.style l (is_labelled_before_easter p r.calendar l);
  month = l.month;
  day = l.day;
}

-- one date of a style's year comes before another one: the years that the style counts go first
abbrev pub is_earlier_in_style : ℤ → Date → ℤ → Date → Bool
is_earlier_in_style year date other_year other =
    int_lt year other_year || (int_eq year other_year && is_earlier date other)

-- the label comes after the day's in the order of the regime's style. Its own year goes first, so
-- that a date which its year lacks, from Easter to Easter, comes after that year and before the
-- next
unfoldable pub is_after : Rules → Regime → Label → ℕ → Bool
is_after p r l d =
    is_earlier_in_style (style_year p r d) (date_of r.calendar d) l.year (label_date p r l)

-- the label comes before the day's in that order
unfoldable pub is_before : Rules → Regime → Label → ℕ → Bool
is_before p r l d =
    is_earlier_in_style l.year (label_date p r l) (style_year p r d) (date_of r.calendar d)

-- the label comes after the last day before a change, and before the day of the change. It is one
-- of the dates that the change skips
abbrev pub is_in_gap : Rules → TerritoryModel → Label → ℕ → Bool
is_in_gap p t l f =
    nat_lt 1 f
    && (is_after p (regime_at t (f - 1)) l (f - 1) && is_before p (regime_at t f) l f)

-- the days of the changes at which the label is skipped, and in whose gap it lies
abbrev pub gaps : Rules → TerritoryModel → Label → List ℕ
gaps p t l = filter (is_in_gap p t l) (skipped p t l)

-- the label comes before the first day of the line, or after the last
abbrev pub is_off_line : Rules → TerritoryModel → Label → Bool
is_off_line p t l =
    is_before p (regime_at t 1) l 1 || is_after p (regime_at t p.high) l p.high
