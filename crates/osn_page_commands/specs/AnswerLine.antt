-- The answer of a page in JSON: the line that the service writes to each query of the page.
use Rattle.std.specs.Prelude.{ℕ, pos, false, List, [], ◌∷◌, Option, None, Result}
use Rattle.std.specs.List.{flat_map}
use Rattle.osn_days.specs.declared.weekday.Weekday.{Weekday}
use Rattle.osn_core.specs.Edition.{EditionModel, reply_in}
use Rattle.osn_grammar.specs.ReadDate.{reading_by}
use Rattle.osn_grammar.specs.Reading.{members}
use Rattle.osn_grammar.specs.declared.text_reading.TextReading.{TextReading}
use Rattle.osn_pages.specs.declared.page.Page.{Page}
use Rattle.osn_pages.specs.declared.page.Page.TheVariants as pages
use Rattle.osn_register.specs.declared.query.Query.{Query}
use Rattle.osn_register.specs.declared.query.Query.TheVariants as queries
use Rattle.osn_service.specs.ReplyText.{reply_line}
use Rattle.osn_service.specs.declared.outcome.Outcome.TheVariants.{Replied}
use Rattle.osn_written.specs.declared.any_date.AnyDate.{AnyDate}
use Rattle.osn_written.specs.declared.any_date.Extent.TheVariants.{On}
use Rattle.osn_written.specs.declared.any_date.PartialDate.{PartialDate}
use Rattle.osn_written.specs.declared.any_date.PartialDate.TheVariants as dates
use Rattle.osn_written.specs.declared.any_date.Year.{Year}
use Rattle.osn_written.specs.declared.written_date.DateFault.{DateFault}
use Rattle.osn_written.specs.declared.date_reading.DateReading.TheVariants as readings

-- the line that the service writes to a query of its first reader, from an edition
abbrev pub query_line : EditionModel → Query → List ℕ
query_line edition query = reply_line (Replied 1 (reply_in edition query))

-- a line each
abbrev pub query_lines : EditionModel → List Query → List ℕ
query_lines edition asked = flat_map (query_line edition) asked

-- a date without signs, whose year is written whole
abbrev pub plain_date : PartialDate → AnyDate
plain_date date = record {
  extent = On date;
  weekday = None;
  reckoning = None;
  is_approximate = false;
  is_uncertain = false;
  is_supplied = false;
}

abbrev pub plain_year : ℕ → Year
plain_year first = record { first = first; is_double = false; has_three_digits = false }

-- the query that asks which days a date means
abbrev pub query_of_date : List ℕ → List ℕ → AnyDate → Option Weekday → Query
query_of_date code text date given = queries.Written code text (readings.Date date) given

-- the query of a page on the territory of a code, of which this is the text of the date: what a
-- date means, how the territory dated a day, which days a month had, and which periods there are
abbrev pub query_of_page : List ℕ → List ℕ → Page → Query
query_of_page code text (pages.Reading date given) = query_of_date code text date given
query_of_page code text (pages.OfDay day weekday) = queries.DayIn code (pos day)
query_of_page code text (pages.Month year month) =
    query_of_date code text (plain_date (dates.Month (plain_year year) month)) None
query_of_page code text pages.Periods = queries.Periods code

-- the queries of the page of a year, in the order of its lines: which days the year had, the
-- changes, the feasts, the listed Easters, whose sources the page cites, and the figures
abbrev pub queries_of_year : List ℕ → List ℕ → ℕ → List Query
queries_of_year code text year =
    query_of_date code text (plain_date (dates.Year (plain_year year))) None
    ∷ queries.Changes code ∷ queries.Feasts code (pos year) ∷ queries.Exceptions code
    ∷ queries.YearFigures (pos year) ∷ []

-- the query of the page on a set of dates
abbrev pub query_of_set : List ℕ → List ℕ → Option Weekday → Query
query_of_set code text given = queries.Written code text (readings.Set (members text)) given

-- the query of the page on a text, by what was read from it
abbrev pub query_of_read : List ℕ → List ℕ → Result TextReading DateFault → Option Weekday → Query
query_of_read code text date given =
    queries.Written code text (reading_by (members text) date) given
