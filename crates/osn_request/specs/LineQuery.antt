-- The query of one that borrows from its line: the date that it asks about is the one that its text
-- says.
use Rattle.std.specs.Prelude.{◌≡◌, MatchResult, ℕ, List, Option, Result, Ok, Err}
use Rattle.osn_days.specs.declared.weekday.Weekday.{Weekday}
use Rattle.osn_grammar.specs.ReadDate.{date_reading}
use Rattle.osn_register.specs.BorrowedQuery.{as_query}
use Rattle.osn_register.specs.declared.query.Query.{Query}
use Rattle.osn_register.specs.declared.query.Query.TheVariants as queries
use Rattle.osn_request.specs.declared.wire_fault.WireFault.{WireFault}
use Rattle.osn_request.specs.declared.request.line_query.LineQuery.{LineQuery}
use Rattle.osn_request.specs.declared.request.line_query.LineQuery.TheVariants as lines

-- the query about the date that a text says
abbrev pub written_query : List ℕ → List ℕ → Option Weekday → Query
written_query code text weekday = queries.Written code text (date_reading text) weekday

abbrev pub line_query : LineQuery → Query
line_query (lines.Plain query) = as_query query
line_query (lines.Written code date weekday) = written_query code.now date.now weekday

-- the query that was read means the given one, or the fault is the given one
abbrev pub Reads : Result LineQuery WireFault → Result Query WireFault → Type 0
Reads result said = MatchResult result (λ q. said ≡ Ok (line_query q)) (λ f. said ≡ Err f)
