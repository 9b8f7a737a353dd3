-- A query that names a territory is asked for by an operation that has a code.
use Rattle.std.proofs.Common.{◌≡◌, ℕ, ℤ, true, false, Result, Ok, Err, refl, sym, subst, ◌∙◌}
use Rattle.serde_json.specs.Data.{Data}
use Rattle.osn_register.specs.declared.query.Query.{Query}
use Rattle.osn_register.specs.declared.query.Query.TheVariants as queries
use Rattle.osn_register.specs.Query.{names_territory}
use Rattle.osn_request.specs.declared.member.Member.TheVariants as members
use Rattle.osn_request.specs.declared.wire_fault.WireFault.{WireFault}
use Rattle.osn_request.specs.declared.request.op.QueryOp.{QueryOp}
use Rattle.osn_request.specs.declared.request.op.QueryOp.TheVariants as ops
use Rattle.osn_request.specs.Field.{◌>>=◌, whole_at}
use Rattle.osn_request.specs.QueryRequest.{query_of, year_figures_of, reader_in, has_code}

-- the query, if there is one, names no territory
abbrev NamesNone : Result (ℕ × Query) WireFault → Type 0
NamesNone (Ok asked) = names_territory asked.1 ≡ false
NamesNone (Err f) = Unit {0}

abbrev by_number : Query → Result ℕ WireFault → Result (ℕ × Query) WireFault
by_number q number = number >>= λ n. Ok (n, q)

figures : (y : Result ℤ WireFault) (number : Result ℕ WireFault)
    → NamesNone ((y >>= λ year. Ok (queries.YearFigures year)) >>= λ q. by_number q number)
figures (Err f) number = tt
figures (Ok y) (Err f) = tt
figures (Ok y) (Ok n) = refl

territories : (number : Result ℕ WireFault) → NamesNone (by_number queries.Lands number)
territories (Err f) = tt
territories (Ok n) = refl

after_reader : (reader : Result ℤ WireFault) (next : ℤ → Result (ℕ × Query) WireFault)
    → ((r : ℤ) → NamesNone (next r)) → NamesNone (reader >>= next)
after_reader (Err f) next each = tt
after_reader (Ok r) next each = each r

figures_asked : (readers : ℕ) (d : Data) → NamesNone (query_of readers ops.YearFigures d)
unfolding query_of year_figures_of
figures_asked readers d = after_reader (whole_at members.Reader d) _
    (λ r. figures (whole_at members.Year d) (reader_in readers r))

territories_query : (readers : ℕ) (d : Data) → NamesNone (query_of readers ops.Lands d)
unfolding query_of
territories_query readers d = after_reader (whole_at members.Reader d) _
    (λ r. territories (reader_in readers r))

pub query_by_code : (readers : ℕ) (op : QueryOp) (d : Data) (asked : ℕ × Query)
    → query_of readers op d ≡ Ok asked → names_territory asked.1 ≡ true → has_code op ≡ true
query_by_code readers ops.Read d asked is names = refl
query_by_code readers ops.DayIn d asked is names = refl
query_by_code readers ops.Easter d asked is names = refl
query_by_code readers ops.Periods d asked is names = refl
query_by_code readers ops.Exceptions d asked is names = refl
query_by_code readers ops.Changes d asked is names = refl
query_by_code readers ops.Feasts d asked is names = refl
query_by_code readers ops.Convert d asked is names = refl
query_by_code readers ops.Written d asked is names = refl
query_by_code readers ops.YearFigures d asked is names =
    sym (subst NamesNone is (figures_asked readers d)) ∙ names
query_by_code readers ops.Lands d asked is names =
    sym (subst NamesNone is (territories_query readers d)) ∙ names
