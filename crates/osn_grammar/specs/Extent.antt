-- From when to when a date may be: one date, a range of two, or a bound. This project's profile.
use Rattle.std.specs.Prelude.{ℕ, Bool, true, false, not, ◌&&◌, ◌||◌, ◌==◌, ◌+◌, nat_le}
use Rattle.std.specs.Prelude.{if◌then◌else◌}
use Rattle.std.specs.Prelude.{List, [], ◌∷◌, ◌++◌}
use Rattle.std.specs.Prelude.{Result, Ok, Err}
use Rattle.osn_grammar.specs.declared.extent.Beginning.{Beginning}
use Rattle.osn_grammar.specs.declared.extent.Beginning.TheVariants as begins
use Rattle.osn_grammar.specs.declared.extent.Joining.{Joining}
use Rattle.osn_grammar.specs.declared.extent.Joining.TheVariants as joins
use Rattle.osn_grammar.specs.declared.token.Numeral.{Numeral}
use Rattle.osn_grammar.specs.declared.token.Token.{Token}
use Rattle.osn_grammar.specs.declared.token.Token.TheVariants.{Number, Month, Dash, Slash}
use Rattle.osn_grammar.specs.declared.token.Token.TheVariants.{Dot, Open, To, ToThe}
use Rattle.osn_grammar.specs.declared.token.Token.TheVariants.{Or, And, Between, From, Before}
use Rattle.osn_grammar.specs.declared.token.Token.TheVariants.{After, No, Not, By, Earlier, Later}
use Rattle.osn_grammar.specs.declared.token.Token.TheVariants.{Than}
use Rattle.osn_written.specs.declared.written_date.DateFault.{DateFault}
use Rattle.osn_written.specs.declared.written_date.DateFault.TheVariants as faults
use Rattle.osn_grammar.specs.declared.text_reading.DateOrder.{DateOrder}
use Rattle.osn_written.specs.declared.any_date.Extent.{Extent}
use Rattle.osn_written.specs.declared.any_date.Extent.TheVariants as extent
use Rattle.osn_written.specs.declared.any_date.PartialDate.{PartialDate}
use Rattle.osn_written.specs.declared.any_date.PartialDate.TheVariants as date
use Rattle.osn_written.specs.declared.any_date.Year.{Year}
use Rattle.osn_written.specs.declared.written_date.MonthDay.{MonthDay}
use Rattle.osn_written.specs.AnyDate.{has_three_digits, in_year}
use Rattle.osn_grammar.specs.Forms.{date_in_digits, partial_date}
use Rattle.osn_grammar.specs.Simple.{◌>>=◌, is_long, month_in, day_in}

-- ---- ranges

-- what the first date of a range says on its own: `3`, `28 February`, `February 28`, `28.2`,
-- `March`, or otherwise a whole date
abbrev pub lone_day : Numeral → Beginning
lone_day d = if is_long d then begins.Whole else begins.Day d.value

abbrev pub day_of_month : ℕ → Numeral → Beginning
day_of_month m d = if is_long d then begins.Whole else begins.DayOfMonth m d.value

abbrev pub beginning_of : List Token → Beginning
beginning_of (Number d ∷ []) = lone_day d
beginning_of (Number d ∷ Month m ∷ []) = day_of_month m d
beginning_of (Month m ∷ Number d ∷ []) = day_of_month m d
beginning_of (Number d ∷ Dot ∷ Number m ∷ []) =
    if is_long m then begins.Whole else day_of_month m.value d
beginning_of (Month m ∷ []) = begins.Month m
beginning_of _ = begins.Whole

-- the first date of a range gets from the last one what it lacks. A day before a day gets its month
-- and year, a day of a month its year, and a month before a month its year
abbrev pub first_date : Result PartialDate DateFault → Beginning → PartialDate
    → Result PartialDate DateFault
first_date whole (begins.Day d) (date.Day year month day) = day_in year month d
first_date whole (begins.DayOfMonth m d) (date.Day year month day) = day_in year m d
first_date whole (begins.Month m) (date.Month year month) = month_in year m
first_date whole beginning last = whole

-- a day that gets its year from the last date is a day of that year: one year is written for both
abbrev pub days_of_year : PartialDate → Year → MonthDay → Extent
days_of_year (date.Day y month day) year last =
    extent.DaysOfYear (record { month = month; day = day }) last year
days_of_year first year last = extent.FromTo first (in_year last year)

abbrev pub from_to : Beginning → PartialDate → PartialDate → Extent
from_to (begins.Day d) first (date.Day year month day) =
    days_of_year first year (record { month = month; day = day })
from_to (begins.DayOfMonth m d) first (date.Day year month day) =
    days_of_year first year (record { month = month; day = day })
from_to beginning first last = extent.FromTo first last

-- there is no range if the first date has no form, on its own or as a beginning
abbrev pub has_no_form : Result PartialDate DateFault → Beginning → Bool
has_no_form (Err faults.Malformed) begins.Whole = true
has_no_form whole beginning = false

abbrev pub range_of : Result PartialDate DateFault → Beginning → Result PartialDate DateFault
    → Result Extent DateFault
range_of whole beginning last = do
  end ← last
  start ← first_date whole beginning end
  Ok (from_to beginning start end)

abbrev pub range : DateOrder → List Token → List Token → Result Extent DateFault
range o first last =
    if has_no_form (partial_date o first) (beginning_of first) then Err faults.Malformed
    else range_of (partial_date o first) (beginning_of first) (partial_date o last)

abbrev pub is_open : List Token → Bool
is_open (Open ∷ []) = true
is_open _ = false

-- with a `/` the dates are in digits, and two full stops are an open end: 1640-05/1640-07, ../1640,
-- 1640/..
abbrev pub not_after : DateOrder → List Token → Result Extent DateFault
not_after o last = do
  end ← partial_date o last
  Ok (extent.NotAfter end)

abbrev pub not_before : DateOrder → List Token → Result Extent DateFault
not_before o first = do
  start ← partial_date o first
  Ok (extent.NotBefore start)

abbrev pub range_in_digits : List Token → List Token → Result Extent DateFault
range_in_digits first last = do
  start ← date_in_digits first
  end ← date_in_digits last
  Ok (extent.FromTo start end)

-- a date in digits may have nothing on the other side: /1640, 1640/. A year of three digits may
-- lack its last one there
abbrev pub is_nothing : List Token → Bool
is_nothing [] = true
is_nothing (token ∷ rest) = false

abbrev pub unless_short : Extent → Result Extent DateFault
unless_short e = if has_three_digits e then Err faults.OpenYear else Ok e

abbrev pub nothing_before : List Token → Result Extent DateFault
nothing_before last = do
  end ← date_in_digits last
  unless_short (extent.NotAfter end)

abbrev pub nothing_after : List Token → Result Extent DateFault
nothing_after first = do
  start ← date_in_digits first
  unless_short (extent.NotBefore start)

abbrev pub slashed_range : DateOrder → List Token → List Token → Result Extent DateFault
slashed_range o first last =
    if is_open first then not_after o last
    else (if is_open last then not_before o first
    else (if is_nothing first then nothing_before last
    else (if is_nothing last then nothing_after first
    else range_in_digits first last)))

-- after a year, a dash and a number of one or two digits are part of that date, as in
-- 1698-07-25 - 1699 and 1640-05/1641
abbrev pub begins_short : List Token → Bool
begins_short (Number m ∷ Dash ∷ rest) = not (is_long m)
begins_short (Number m ∷ Slash ∷ Number y ∷ []) = not (is_long m)
begins_short last = false

abbrev pub is_whole_year : List Token → Bool
is_whole_year (Number y ∷ []) = is_long y
is_whole_year (Number y ∷ Slash ∷ Number l ∷ []) = is_long y
is_whole_year first = false

-- after a day from January to March and its year, a dash and the next year are a double year:
-- 11 Feb. 1699-1700
abbrev pub is_next_after : ℕ → Numeral → Numeral → Bool
is_next_after month y l =
    nat_le month 3
    && (l.digits == 4
    && (is_long y && (nat_le y.value 10000 && l.value == y.value + 1)))

abbrev pub is_year_after : ℕ → Numeral → List Token → Bool
is_year_after month y (Number l ∷ []) = is_next_after month y l
is_year_after month y last = false

abbrev pub is_double_year : List Token → List Token → Bool
is_double_year (Number d ∷ Month m ∷ Number y ∷ []) last = is_year_after m y last
is_double_year (Month m ∷ Number d ∷ Number y ∷ []) last = is_year_after m y last
is_double_year first last = false

abbrev pub dashed_range : DateOrder → List Token → List Token → Result Extent DateFault
dashed_range o first last =
    if (is_whole_year first && begins_short last) || is_double_year first last then
    Err faults.Malformed
    else range o first last

-- what joins two dates: `to`, `or`, `au`, a dash and a `/`, after `from` only `to`, `au` or a dash,
-- and after `between` only `and`
abbrev pub join_dates : DateOrder → Joining → List Token → Token → List Token
    → Result Extent DateFault
join_dates o joins.Any first Slash last = slashed_range o first last
join_dates o joins.Any first To last = range o first last
join_dates o joins.Any first Or last = range o first last
join_dates o joins.Any first ToThe last = range o first last
join_dates o joins.Any first Dash last = dashed_range o first last
join_dates o joins.To first To last = range o first last
join_dates o joins.To first ToThe last = range o first last
join_dates o joins.To first Dash last = dashed_range o first last
join_dates o joins.And first And last = range o first last
join_dates o joining first token last = Err faults.Malformed

-- the first of two readings that succeeds, or else the first fault other than Malformed
abbrev pub first_read : Result Extent DateFault → Result Extent DateFault
    → Result Extent DateFault
first_read (Ok e) other = Ok e
first_read (Err f) (Ok e) = Ok e
first_read (Err faults.Malformed) (Err f) = Err f
first_read (Err f) (Err g) = Err f

-- the range that parts are after some others, at the first part that joins two dates
abbrev pub range_after : DateOrder → Joining → List Token → List Token → Result Extent DateFault
range_after o joining before [] = Err faults.Malformed
range_after o joining before (token ∷ rest) =
    first_read (join_dates o joining before token rest)
    (range_after o joining (before ++ token ∷ []) rest)

-- ---- one date, a range or a bound

-- a reading, or else this fault
abbrev pub or_fault : DateFault → Result Extent DateFault → Result Extent DateFault
or_fault fault (Ok e) = Ok e
or_fault fault (Err other) = Err fault

abbrev pub range_unless : DateOrder → List Token → Result PartialDate DateFault
    → Result Extent DateFault
range_unless o tokens (Ok d) = Ok (extent.On d)
range_unless o tokens (Err faults.Malformed) = range_after o joins.Any [] tokens
range_unless o tokens (Err faults.LaterYear) =
    or_fault faults.LaterYear (range_after o joins.Any [] tokens)
range_unless o tokens (Err f) = Err f

-- a text that is not one date may be a range, and so may 1640/1645, which is not a double year
unfoldable pub date_or_range : DateOrder → List Token → Result Extent DateFault
date_or_range o tokens = range_unless o tokens (partial_date o tokens)

-- from one date to another, or from one date on
abbrev pub range_or_first : DateOrder → List Token → Result Extent DateFault
range_or_first o tokens = first_read (range_after o joins.To [] tokens) (not_before o tokens)

abbrev pub extent_of : DateOrder → List Token → Result Extent DateFault
extent_of o (Before ∷ tokens) = do
  d ← partial_date o tokens
  Ok (extent.Before d)
extent_of o (Earlier ∷ Than ∷ tokens) = do
  d ← partial_date o tokens
  Ok (extent.Before d)
extent_of o (After ∷ tokens) = do
  d ← partial_date o tokens
  Ok (extent.After d)
extent_of o (Later ∷ Than ∷ tokens) = do
  d ← partial_date o tokens
  Ok (extent.After d)
extent_of o (Not ∷ Before ∷ tokens) = not_before o tokens
extent_of o (Not ∷ Earlier ∷ Than ∷ tokens) = not_before o tokens
extent_of o (No ∷ Earlier ∷ Than ∷ tokens) = not_before o tokens
extent_of o (Not ∷ After ∷ tokens) = not_after o tokens
extent_of o (Not ∷ Later ∷ Than ∷ tokens) = not_after o tokens
extent_of o (No ∷ Later ∷ Than ∷ tokens) = not_after o tokens
extent_of o (Or ∷ Before ∷ tokens) = not_after o tokens
extent_of o (Or ∷ After ∷ tokens) = not_before o tokens
extent_of o (By ∷ tokens) = not_after o tokens
extent_of o (To ∷ tokens) = not_after o tokens
extent_of o (Between ∷ tokens) = range_after o joins.And [] tokens
extent_of o (From ∷ tokens) = range_or_first o tokens
extent_of o tokens = date_or_range o tokens
