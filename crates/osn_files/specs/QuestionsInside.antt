-- The lists of queries that are made while a question file is read.
use Rattle.std.specs.Prelude.{ℕ, zero, suc, List, [], ◌∷◌, ◌++◌, Result, Ok}
use Rattle.serde_json.specs.Data.{Data}
use Rattle.osn_register.specs.declared.query.Query.{Query}
use Rattle.osn_request.specs.declared.version.Version.{Version}
use Rattle.osn_files.specs.declared.fault.LineFault.{LineFault}
use Rattle.osn_files.specs.Questions.{question_in}
use Rattle.osn_files.specs.Turns.{on_read}

-- one query more at a place, counted from 0
abbrev pub with_query_at : List (List Query) → ℕ → Query → List (List Query)
with_query_at [] zero q = (q ∷ []) ∷ []
with_query_at [] (suc n) q = [] ∷ with_query_at [] n q
with_query_at (qs ∷ rest) zero q = (qs ++ q ∷ []) ∷ rest
with_query_at (qs ∷ rest) (suc n) q = qs ∷ with_query_at rest n q

-- one query more of a reader, counted from 1
abbrev pub with_query : List (List Query) → ℕ → Query → List (List Query)
with_query lists zero q = lists
with_query lists (suc n) q = with_query_at lists n q

-- the lists, with the query of a line's object
abbrev pub with_object : Version → List (List Query) → Data → Result (List (List Query)) LineFault
with_object version lists d =
    on_read (question_in d) (λ question. Ok (with_query lists question.0 question.1))
