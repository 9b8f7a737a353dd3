-- The query of a line's object, its members in the order of the formats: this project's profile.
-- The reader's number is the first member, and that it is the number of a reader is tested last.
use Rattle.std.specs.Prelude.{ℕ, ℤ, pos, int_le, unsigned_abs, ◌&&◌}
use Rattle.std.specs.Prelude.{if◌then◌else◌, Bool, true, false, Result, Ok, Err}
use Rattle.serde_json.specs.Data.{Data}
use Rattle.osn_register.specs.declared.query.Query.{Query}
use Rattle.osn_register.specs.declared.query.Query.TheVariants as queries
use Rattle.osn_request.specs.declared.member.Member.TheVariants as members
use Rattle.osn_request.specs.declared.request.op.QueryOp.{QueryOp}
use Rattle.osn_request.specs.declared.request.op.QueryOp.TheVariants as ops
use Rattle.osn_request.specs.declared.wire_fault.WireFault.{WireFault}
use Rattle.osn_request.specs.declared.wire_fault.WireFault.TheVariants.{UnknownReader}
use Rattle.osn_request.specs.Field.{◌>>=◌, calendar_at, text_at, weekday_at, whole_at}
use Rattle.osn_request.specs.LineQuery.{written_query}

-- the readers are counted from 1
abbrev pub reader_in : ℕ → ℤ → Result ℕ WireFault
reader_in readers r =
    if int_le (pos 1) r && int_le r (pos readers) then Ok (unsigned_abs r) else Err UnknownReader

unfoldable pub read_of : Data → Result Query WireFault
read_of d = do
  code ← text_at members.Code d
  year ← whole_at members.Year d
  month ← whole_at members.Month d
  day ← whole_at members.Day d
  Ok (queries.Read code year month day)

unfoldable pub day_in_of : Data → Result Query WireFault
day_in_of d = do
  code ← text_at members.Code d
  day ← whole_at members.Day d
  Ok (queries.DayIn code day)

unfoldable pub easter_of : Data → Result Query WireFault
easter_of d = do
  code ← text_at members.Code d
  year ← whole_at members.Year d
  Ok (queries.Easter code year)

unfoldable pub year_figures_of : Data → Result Query WireFault
year_figures_of d = do
  year ← whole_at members.Year d
  Ok (queries.YearFigures year)

unfoldable pub periods_of : Data → Result Query WireFault
periods_of d = do
  code ← text_at members.Code d
  Ok (queries.Periods code)

unfoldable pub exceptions_of : Data → Result Query WireFault
exceptions_of d = do
  code ← text_at members.Code d
  Ok (queries.Exceptions code)

unfoldable pub changes_of : Data → Result Query WireFault
changes_of d = do
  code ← text_at members.Code d
  Ok (queries.Changes code)

unfoldable pub feasts_of : Data → Result Query WireFault
feasts_of d = do
  code ← text_at members.Code d
  year ← whole_at members.Year d
  Ok (queries.Feasts code year)

unfoldable pub convert_of : Data → Result Query WireFault
convert_of d = do
  code ← text_at members.Code d
  calendar ← calendar_at d
  year ← whole_at members.Year d
  month ← whole_at members.Month d
  day ← whole_at members.Day d
  Ok (queries.Convert code calendar year month day)

unfoldable pub written_of : Data → Result Query WireFault
written_of d = do
  code ← text_at members.Code d
  text ← text_at members.Date d
  weekday ← weekday_at d
  Ok (written_query code text weekday)

-- the query of an object that asks for this one, without the reader who asks it
abbrev pub query_by : QueryOp → Data → Result Query WireFault
query_by ops.Read d = read_of d
query_by ops.DayIn d = day_in_of d
query_by ops.Easter d = easter_of d
query_by ops.YearFigures d = year_figures_of d
query_by ops.Lands d = Ok queries.Lands
query_by ops.Periods d = periods_of d
query_by ops.Exceptions d = exceptions_of d
query_by ops.Changes d = changes_of d
query_by ops.Feasts d = feasts_of d
query_by ops.Convert d = convert_of d
query_by ops.Written d = written_of d

-- a query that has a territory's code
abbrev pub has_code : QueryOp → Bool
has_code ops.Read = true
has_code ops.DayIn = true
has_code ops.Easter = true
has_code ops.YearFigures = false
has_code ops.Lands = false
has_code ops.Periods = true
has_code ops.Exceptions = true
has_code ops.Changes = true
has_code ops.Feasts = true
has_code ops.Convert = true
has_code ops.Written = true

-- the number of the reader who asks, and the query
unfoldable pub query_of : ℕ → QueryOp → Data → Result (ℕ × Query) WireFault
query_of readers op d = do
  reader ← whole_at members.Reader d
  query ← query_by op d
  number ← reader_in readers reader
  Ok (number, query)
