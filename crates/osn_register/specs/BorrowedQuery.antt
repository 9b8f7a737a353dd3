-- A query with borrowed texts, as a query with texts of its own.
use Rattle.osn_register.specs.declared.borrowed_query.BorrowedQuery.{BorrowedQuery}
use Rattle.osn_register.specs.declared.borrowed_query.BorrowedQuery.TheVariants as borrowed
use Rattle.osn_register.specs.declared.query.Query.{Query}
use Rattle.osn_register.specs.declared.query.Query.TheVariants as queries

abbrev pub as_query : BorrowedQuery → Query
as_query (borrowed.Read code year month day) = queries.Read code.now year month day
as_query (borrowed.DayIn code day) = queries.DayIn code.now day
as_query (borrowed.Easter code year) = queries.Easter code.now year
as_query (borrowed.YearFigures year) = queries.YearFigures year
as_query borrowed.Lands = queries.Lands
as_query (borrowed.Periods code) = queries.Periods code.now
as_query (borrowed.Exceptions code) = queries.Exceptions code.now
as_query (borrowed.Changes code) = queries.Changes code.now
as_query (borrowed.Feasts code year) = queries.Feasts code.now year
as_query (borrowed.Convert code calendar year month day) =
    queries.Convert code.now calendar year month day
as_query (borrowed.Written code text date weekday) =
    queries.Written code.now text.now date.now weekday
