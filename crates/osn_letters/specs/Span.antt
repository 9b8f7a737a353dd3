-- The first and the last day that a date may mean. This project's profile.
use Rattle.std.specs.Prelude.{ℕ, List, map, Option, None, min, max}
use Rattle.std.specs.List.{reduce}
use Rattle.osn_written.specs.declared.any_date.Extent.{Extent}
use Rattle.osn_written.specs.declared.any_date.Extent.TheVariants as extent
use Rattle.osn_territory.specs.declared.dating.DatedDay.{DatedDay}
use Rattle.osn_territory.specs.declared.runs.Run.{Run}
use Rattle.osn_written.specs.Spans.{first_of, last_of}
use Rattle.osn_letters.specs.declared.span.Span.{Span}

abbrev pub span : Option ℕ → Option ℕ → Span
span earliest latest = record { earliest = earliest; latest = latest }

-- the span of no day
abbrev pub no_span : Span
no_span = span None None

-- ---- of days in any order

abbrev pub earliest : List DatedDay → Option ℕ
earliest days = reduce min (map (λ day. day.day) days)

abbrev pub latest : List DatedDay → Option ℕ
latest days = reduce max (map (λ day. day.day) days)

abbrev pub span_of_days : List DatedDay → Span
span_of_days days = span (earliest days) (latest days)

-- ---- of runs in order

-- the span of a set
abbrev pub span_of_set : List Run → Span
span_of_set runs = span (first_of runs) (last_of runs)

-- the span of a date that is not one day. A bound is open at one end
abbrev pub span_of_runs : Extent → List Run → Span
span_of_runs (extent.On date) runs = span (first_of runs) (last_of runs)
span_of_runs (extent.FromTo a b) runs = span (first_of runs) (last_of runs)
span_of_runs (extent.DaysOfYear a b year) runs = span (first_of runs) (last_of runs)
span_of_runs (extent.Part portion date) runs = span (first_of runs) (last_of runs)
span_of_runs (extent.Before date) runs = span None (last_of runs)
span_of_runs (extent.NotAfter date) runs = span None (last_of runs)
span_of_runs (extent.After date) runs = span (first_of runs) None
span_of_runs (extent.NotBefore date) runs = span (first_of runs) None
span_of_runs (extent.Feast feast year) runs = span (first_of runs) (last_of runs)
