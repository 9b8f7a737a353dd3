-- What a text says of a date, and why a text is not a date. This project's profile.
use Rattle.std.specs.Prelude.{ℕ, Bool, true, false, not, ◌&&◌, ◌||◌, ◌==◌, ◌-◌, nat_le}
use Rattle.std.specs.Prelude.{if◌then◌else◌, List, [], ◌∷◌}
use Rattle.std.specs.Prelude.{length, drop, filter, Option, Some, None, Result, Ok, Err}
use Rattle.std.specs.List.{list_any}
use Rattle.std.specs.Option.{unwrap_or}
use Rattle.std.specs.Result.{result_ok}
use Rattle.osn_days.specs.declared.weekday.Weekday.{Weekday}
use Rattle.osn_days.specs.Rules.{newest_rules}
use Rattle.osn_grammar.specs.MonthFirst.{has_month_first, month_moved}
use Rattle.osn_grammar.specs.declared.token.FeastWord.TheVariants as word
use Rattle.osn_grammar.specs.declared.token.Token.{Token}
use Rattle.osn_grammar.specs.declared.token.Token.TheVariants as token
use Rattle.osn_written.specs.declared.written_date.DateFault.{DateFault}
use Rattle.osn_written.specs.declared.written_date.DateFault.TheVariants as faults
use Rattle.osn_grammar.specs.declared.text_reading.DateOrder.{DateOrder}
use Rattle.osn_written.specs.declared.any_date.Extent.{Extent}
use Rattle.osn_written.specs.declared.any_date.Extent.TheVariants as extent
use Rattle.osn_written.specs.declared.any_date.Reckoning.{Reckoning}
use Rattle.osn_written.specs.declared.any_date.PartialDate.{PartialDate}
use Rattle.osn_grammar.specs.declared.token.Years.{Years}
use Rattle.osn_grammar.specs.declared.both_calendars.ReckonedDay.{ReckonedDay}
use Rattle.osn_grammar.specs.declared.reading.ReckonedExtent.{ReckonedExtent}
use Rattle.osn_grammar.specs.declared.text_reading.TextReading.{TextReading}
use Rattle.osn_grammar.specs.declared.text_reading.TextReading.TheVariants as say
use Rattle.osn_written.specs.declared.any_date.AnyDate.{AnyDate}
use Rattle.osn_grammar.specs.Feasts.{feast_in}
use Rattle.osn_grammar.specs.Extent.{extent_of}
use Rattle.osn_written.specs.AnyDate.{has_three_digits}
use Rattle.osn_written.specs.WrittenDate.{parts_at}
use Rattle.osn_grammar.specs.Tokens.{is_of_time}
use Rattle.osn_grammar.specs.Scan.{tokens_in}
use Rattle.osn_grammar.specs.Sets.{inside_braces, inside_brackets, between_commas, is_sign}
use Rattle.osn_grammar.specs.Sets.{dates_in_digits}
use Rattle.osn_grammar.specs.Simple.{◌>>=◌, lacks_digit}
use Rattle.osn_grammar.specs.BothCalendars.{day_by_both, named_day}
use Rattle.osn_grammar.specs.DashedYears.{may_be_double, with_slashes}
use Rattle.osn_grammar.specs.PartRanges.{part_range}
use Rattle.osn_grammar.specs.Period.{is_period, is_winter, period_in}
use Rattle.osn_grammar.specs.OpenDigits.{open_in}
use Rattle.osn_grammar.specs.Roman.{roman_date}
use Rattle.osn_grammar.specs.Years.{range_of, years_in, years_of_text}

-- the weekday so far, with that of one more part. No two may be named
abbrev pub with_weekday : Option Weekday → Token → Result (Option Weekday) DateFault
with_weekday (Some v) (token.Weekday w) = Err faults.Malformed
with_weekday None (token.Weekday w) = Ok (Some w)
with_weekday found p = Ok found

-- the weekday of some parts, after the one that was named before them, if any
abbrev pub weekday_after : Option Weekday → List Token → Result (Option Weekday) DateFault
weekday_after found [] = Ok found
weekday_after found (p ∷ rest) = with_weekday found p >>= (λ next. weekday_after next rest)

-- the calendar of some parts, after the one that was named before them, if any
abbrev pub with_reckoning : Option Reckoning → Token → Result (Option Reckoning) DateFault
with_reckoning (Some v) (token.Reckoning r) = Err faults.Malformed
with_reckoning None (token.Reckoning r) = Ok (Some r)
with_reckoning found p = Ok found

abbrev pub reckoning_after : Option Reckoning → List Token → Result (Option Reckoning) DateFault
reckoning_after found [] = Ok found
reckoning_after found (p ∷ rest) = with_reckoning found p >>= (λ next. reckoning_after next rest)

-- `about`, `c.`, `~`, `%`, `EST`
abbrev pub is_about : Token → Bool
is_about token.About = true
is_about token.AboutAndDoubt = true
is_about token.Estimated = true
is_about _ = false

-- `?`, `probably`, `perhaps`, `%`
abbrev pub is_doubt : Token → Bool
is_doubt token.Doubt = true
is_doubt token.AboutAndDoubt = true
is_doubt _ = false

-- `[`, `]`
abbrev pub is_bracket : Token → Bool
is_bracket token.Bracket = true
is_bracket _ = false

-- a word of a feast's name; `day` is one only after another
abbrev pub is_feast : Token → Bool
is_feast (token.Feast word.Day) = false
is_feast (token.Feast w) = true
is_feast _ = false

abbrev pub is_roman_numeral : Token → Bool
is_roman_numeral token.RomanNumeral = true
is_roman_numeral (token.Roman n) = true
is_roman_numeral (token.RomanLetter n) = true
is_roman_numeral _ = false

abbrev pub is_open_year : Token → Bool
is_open_year token.OpenYear = true
is_open_year (token.Years years) = true
is_open_year _ = false

-- ---- other forms

abbrev pub extent_said : Option Reckoning → Extent → ReckonedExtent
extent_said reckoning e = record { extent = e; reckoning = reckoning; is_part = false }

-- a part of a time is approximate
abbrev pub part_as_extent : Option Reckoning → Extent → ReckonedExtent
part_as_extent reckoning e = record { extent = e; reckoning = reckoning; is_part = true }

-- a day by both calendars is by the one whose date is sure. No calendar may be named beside it
abbrev pub extent_by_both : Option Reckoning → DateFault → Result ReckonedDay DateFault
    → Result ReckonedExtent DateFault
extent_by_both None fault (Ok d) = Ok (extent_said (Some d.reckoning) (extent.On d.date))
extent_by_both (Some r) fault (Ok d) = Err faults.NamedCalendar
extent_by_both reckoning fault (Err faults.Malformed) = Err fault
extent_by_both reckoning fault (Err other) = Err other

-- `EST` and `CAL` are other words, except at the beginning of a text and before a number
abbrev pub begin_estimated : List Token → Bool
begin_estimated (token.Estimated ∷ rest) = true
begin_estimated _ = false

abbrev pub begin_with_number : List Token → Bool
begin_with_number (token.Number n ∷ rest) = true
begin_with_number _ = false

abbrev pub after_estimated : DateOrder → List Token → List Token → Result Extent DateFault
after_estimated o tokens (token.Estimated ∷ date) =
    if begin_estimated tokens && begin_with_number date then extent_of o date
    else Err faults.Malformed
after_estimated o tokens _ = Err faults.Malformed

-- an estimated date, or one with an open digit, such as 1675-05-0X
abbrev pub open_first : Option Extent → Result Extent DateFault → Result Extent DateFault
open_first (Some e) other = Ok e
open_first None other = other

abbrev pub extent_by : List Token → List Token → Option Reckoning → DateFault
    → Result Extent DateFault → Option Years → Option Extent → Result PartialDate DateFault
    → Result ReckonedExtent DateFault
extent_by tokens time_tokens reckoning fault (Ok e) years period roman =
    Ok (extent_said reckoning e)
extent_by tokens time_tokens reckoning fault (Err other) (Some years) period roman =
    Ok (extent_said reckoning (range_of years))
extent_by tokens time_tokens reckoning fault (Err other) None (Some e) roman =
    Ok (part_as_extent reckoning e)
extent_by tokens time_tokens reckoning fault (Err other) None None (Ok d) =
    Ok (extent_said reckoning (extent.On d))
extent_by tokens time_tokens reckoning fault (Err other) None None (Err another) =
    extent_by_both reckoning fault (day_by_both newest_rules tokens time_tokens)

-- what has none of the usual forms may be an estimated date, one with an open digit, a decade, a
-- century, a part of a time, a day with a Roman numeral or a day by both calendars
abbrev pub extent_otherwise : DateOrder → List Token → List Token → Option Reckoning → DateFault
    → Result ReckonedExtent DateFault
extent_otherwise o tokens time_tokens reckoning fault =
    extent_by tokens time_tokens reckoning fault
    (open_first (open_in time_tokens) (after_estimated o tokens time_tokens))
    (years_in time_tokens) (period_in time_tokens) (roman_date time_tokens)

abbrev pub or_other : DateOrder → List Token → List Token → Option Reckoning
    → Result Extent DateFault → Result ReckonedExtent DateFault
or_other o tokens time_tokens reckoning (Ok e) = Ok (extent_said reckoning e)
or_other o tokens time_tokens reckoning (Err fault) =
    extent_otherwise o tokens time_tokens reckoning fault

-- no two calendars may be named, unless they are beside the two dates of a day
abbrev pub extent_in : DateOrder → List Token → List Token → Result (Option Reckoning) DateFault
    → Result ReckonedExtent DateFault
extent_in o tokens time_tokens (Ok reckoning) =
    or_other o tokens time_tokens reckoning (extent_of o time_tokens)
extent_in o tokens time_tokens (Err fault) =
    extent_by_both None fault (named_day newest_rules tokens time_tokens)

-- a year of three digits may lack its last one, if it is in doubt or in brackets
abbrev pub unless_open : AnyDate → Result AnyDate DateFault
unless_open w =
    if has_three_digits w.extent && (w.is_uncertain || w.is_supplied) then Err faults.OpenYear
    else Ok w

-- a date, by all parts and by those that say which day is meant
abbrev pub date_of : DateOrder → List Token → List Token → Result AnyDate DateFault
date_of o tokens time_tokens = do
  weekday ← weekday_after None tokens
  time ← extent_in o tokens time_tokens (reckoning_after None tokens)
  unless_open (record {
    extent = time.extent;
    weekday = weekday;
    reckoning = time.reckoning;
    is_approximate = time.is_part || list_any is_about tokens;
    is_uncertain = list_any is_doubt tokens;
    is_supplied = list_any is_bracket tokens;
  })

-- `n.d.`, `undated`
abbrev pub is_undated : List Token → Bool
is_undated (token.Undated ∷ []) = true
is_undated (token.No ∷ []) = true
is_undated _ = false

-- a year of three digits and a dash or two full stops after it: 173-, 11 Feb. 173..
abbrev pub is_open_end : List Token → Bool
is_open_end (token.Number y ∷ token.Dash ∷ []) = lacks_digit y
is_open_end (token.Number y ∷ token.Open ∷ []) = lacks_digit y
is_open_end _ = false

-- the last two parts are a year of three digits with a dash or two full stops after it
abbrev pub ends_open : List Token → Bool
ends_open tokens = nat_le 2 (length tokens) && is_open_end (drop (length tokens - 2) tokens)

abbrev pub open_or : List Token → DateFault → DateFault
open_or time_tokens faults.Malformed =
    if ends_open time_tokens then faults.OpenYear else faults.Malformed
open_or time_tokens fault = fault

-- why parts are not a date: a part of a time, a Roman numeral, a year with an open digit, or else
-- the fault
abbrev pub reason : List Token → List Token → DateFault → DateFault
reason tokens time_tokens fault =
    if list_any is_period tokens || is_winter time_tokens then faults.OpenPart
    else (if list_any is_roman_numeral tokens then faults.RomanNumeral
    else (if list_any is_open_year tokens then faults.OpenYear
    else open_or time_tokens fault))

abbrev pub or_reason : List Token → List Token → Result AnyDate DateFault
    → Result TextReading DateFault
or_reason tokens time_tokens (Ok w) = Ok (say.Date w)
or_reason tokens time_tokens (Err fault) = Err (reason tokens time_tokens fault)

-- ---- a feast

abbrev pub with_its_signs : List Token → Option Reckoning → Extent → Result AnyDate DateFault
with_its_signs tokens (Some r) e = Err faults.Feast
with_its_signs tokens None e = unless_open (record {
  extent = e;
  weekday = None;
  reckoning = None;
  is_approximate = list_any is_about tokens;
  is_uncertain = list_any is_doubt tokens;
  is_supplied = list_any is_bracket tokens;
})

-- a feast in a year. Its weekday is part of its name, and no calendar may be named
abbrev pub feast_of : List Token → List Token → Result AnyDate DateFault
feast_of tokens time_tokens = do
  weekday ← weekday_after None tokens
  reckoning ← reckoning_after None tokens
  extent ← feast_in weekday time_tokens
  with_its_signs tokens reckoning extent

abbrev pub as_date : Result AnyDate DateFault → Result TextReading DateFault
as_date read = do
  w ← read
  Ok (say.Date w)

-- a text of no parts has no date, and neither has one that is undated
abbrev pub reading_of_tokens : DateOrder → List Token → List Token → Result TextReading DateFault
reading_of_tokens o tokens time_tokens =
    if length tokens == 0 || is_undated time_tokens then Ok say.NoDate
    else (if list_any is_feast tokens then as_date (feast_of tokens time_tokens)
    else or_reason tokens time_tokens (date_of o tokens time_tokens))

-- ---- a set of dates

-- a member of a set, with its signs
abbrev pub with_signs : List Token → Extent → AnyDate
with_signs tokens e = record {
  extent = e;
  weekday = None;
  reckoning = None;
  is_approximate = list_any is_about tokens;
  is_uncertain = list_any is_doubt tokens;
  is_supplied = false;
}

abbrev pub member_by : List Token → Result Extent DateFault → Result AnyDate DateFault
member_by tokens days = do
  extent ← days
  Ok (with_signs tokens extent)

-- the member that parts are, or why they are not one
abbrev pub member_of : List Token → Result AnyDate DateFault
member_of tokens = member_by tokens (dates_in_digits (filter (λ p. not (is_sign p)) tokens))

abbrev pub member_in : List ℕ → Result AnyDate DateFault
member_in text = member_of (tokens_in text)

-- the members that texts are, or why the first wrong one is not a member
abbrev pub all_members : List (List ℕ) → Result (List AnyDate) DateFault
all_members [] = Ok []
all_members (text ∷ texts) = do
  w ← member_in text
  ws ← all_members texts
  Ok (w ∷ ws)

-- the members of the set that a text is, or why it is not a set
abbrev pub set_inside : Option (List ℕ) → Result (List AnyDate) DateFault
set_inside None = Err faults.Malformed
set_inside (Some inside) = all_members (between_commas inside)

unfoldable pub set_in : List ℕ → Result (List AnyDate) DateFault
set_in text = set_inside (inside_brackets text)

-- the members of the list that a text is, 1640, 1642 or {1640,1642}, or why it is not a list. A
-- list without braces has two members or more
abbrev pub list_of : List (List ℕ) → Result (List AnyDate) DateFault
list_of (text ∷ next ∷ texts) = all_members (text ∷ next ∷ texts)
list_of texts = Err faults.Malformed

abbrev pub list_inside : Option (List ℕ) → List ℕ → Result (List AnyDate) DateFault
list_inside None text = list_of (between_commas text)
list_inside (Some inside) text = all_members (between_commas inside)

unfoldable pub list_in : List ℕ → Result (List AnyDate) DateFault
list_in text = list_inside (inside_braces text) text

-- the members of the set or the list that a text is; empty if the text is neither
abbrev pub set_or_list : Result (List AnyDate) DateFault → Result (List AnyDate) DateFault
    → Result (List AnyDate) DateFault
set_or_list (Ok ws) list = Ok ws
set_or_list (Err fault) list = list

abbrev pub members : List ℕ → List AnyDate
members text = unwrap_or (result_ok (set_or_list (set_in text) (list_in text))) []

-- a text that says nothing else of a date may be a set. If it has the form of a set, the reason is
-- that of its first member that is not a day
abbrev pub or_set : Result (List AnyDate) DateFault → Result TextReading DateFault
    → Result TextReading DateFault
or_set set (Ok w) = Ok w
or_set (Ok ws) (Err fault) = Ok say.Set
or_set (Err faults.Malformed) (Err fault) = Err fault
or_set (Err reason) (Err fault) = Err reason

-- a text that is nothing else may be years in digits and signs
abbrev pub years_unless : Option AnyDate → Result TextReading DateFault
    → Result TextReading DateFault
years_unless years (Ok w) = Ok w
years_unless (Some w) (Err fault) = Ok (say.Date w)
years_unless None (Err fault) = Err fault

abbrev pub or_years : List ℕ → Result TextReading DateFault → Result TextReading DateFault
or_years text read = years_unless (years_of_text text) read

-- ---- last of all

-- the first fault, unless another reading succeeds
abbrev pub or_this : Result TextReading DateFault → DateFault → Result TextReading DateFault
or_this (Ok w) fault = Ok w
or_this (Err other) fault = Err fault

-- a range of days after its month, May 3-10, 1640
abbrev pub read_month_first : DateOrder → List Token → List Token → DateFault
    → Result TextReading DateFault
read_month_first o tokens time_tokens fault =
    if has_month_first time_tokens then or_this (reading_of_tokens o tokens
    (month_moved time_tokens)) fault
    else Err fault

-- a double year after a dash, 11 Feb. 1675-6. A range of days after its month is tried before that:
-- February 3-10, 1675
abbrev pub read_slashed : DateOrder → List Token → List Token → DateFault
    → Result TextReading DateFault
read_slashed o tokens time_tokens fault =
    if not (has_month_first time_tokens) && may_be_double time_tokens then
    or_this (reading_of_tokens o tokens (with_slashes time_tokens)) fault
    else read_month_first o tokens time_tokens fault

-- from one part of a time to another one, early 1675 - late 1676
abbrev pub of_parts : List Token → Option Weekday → Option Reckoning → Option Extent
    → Result AnyDate DateFault
of_parts tokens weekday reckoning None = Err faults.OpenPart
of_parts tokens weekday reckoning (Some e) = unless_open (record {
  extent = e;
  weekday = weekday;
  reckoning = reckoning;
  is_approximate = true;
  is_uncertain = list_any is_doubt tokens;
  is_supplied = list_any is_bracket tokens;
})

abbrev pub date_of_parts : List Token → List Token → Result AnyDate DateFault
date_of_parts tokens time_tokens = do
  weekday ← weekday_after None tokens
  reckoning ← reckoning_after None tokens
  of_parts tokens weekday reckoning (part_range time_tokens)

abbrev pub read_parts : DateOrder → List Token → List Token → DateFault
    → Result TextReading DateFault
read_parts o tokens time_tokens fault =
    if list_any is_period tokens then or_this (as_date (date_of_parts tokens time_tokens)) fault
    else read_slashed o tokens time_tokens fault

-- INT 11 FEB 1675 (a phrase) is a date that was interpreted from the phrase
abbrev pub date_before_phrase : DateOrder → List Token → List Token → DateFault
    → Result TextReading DateFault
date_before_phrase o tokens (token.Interpreted ∷ time_tokens) fault =
    or_this (reading_of_tokens o tokens time_tokens) fault
date_before_phrase o tokens time_tokens fault = Err fault

-- the phrase ends with its round bracket, and so does the text
abbrev pub is_closed : Option (List ℕ × List ℕ) → Bool
is_closed None = false
is_closed (Some parts) = length parts.1 == 0

abbrev pub before_phrase : DateOrder → Option (List ℕ × List ℕ) → DateFault
    → Result TextReading DateFault
before_phrase o None fault = Err fault
before_phrase o (Some parts) fault =
    if is_closed (parts_at 41 parts.1) then
    date_before_phrase o (tokens_in parts.0) (filter is_of_time (tokens_in parts.0)) fault
    else Err fault

abbrev pub or_phrase : DateOrder → List ℕ → Result TextReading DateFault
    → Result TextReading DateFault
or_phrase o text (Ok w) = Ok w
or_phrase o text (Err fault) = before_phrase o (parts_at 40 text) fault

abbrev pub or_parts : DateOrder → List Token → List Token → Result TextReading DateFault
    → Result TextReading DateFault
or_parts o tokens time_tokens (Ok w) = Ok w
or_parts o tokens time_tokens (Err fault) = read_parts o tokens time_tokens fault

-- a text that is nothing else may be a list of dates
abbrev pub or_list : Result (List AnyDate) DateFault → Result TextReading DateFault
    → Result TextReading DateFault
or_list list (Ok w) = Ok w
or_list (Ok ws) (Err fault) = Ok say.Set
or_list (Err other) (Err fault) = Err fault

-- what a text says of a date, or why it is not a date
unfoldable pub read_date : DateOrder → List ℕ → Result TextReading DateFault
read_date o text =
    or_list (list_in text)
    (or_phrase o text
    (or_parts o (tokens_in text) (filter is_of_time (tokens_in text))
    (or_years text
    (or_set (set_in text)
    (reading_of_tokens o (tokens_in text) (filter is_of_time (tokens_in text)))))))
