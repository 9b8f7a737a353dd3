-- The questions in the lines of a question file, which has no head. For each reader from 1 to the
-- greatest that is named, they are the queries of the reader's lines, in order. This project's
-- profile.
use Rattle.std.specs.Prelude.{ℕ, ◌==◌, if◌then◌else◌, max, List, [], ◌∷◌, ◌++◌, map, Option}
use Rattle.std.specs.Prelude.{Some, None, Result, Ok, Err}
use Rattle.std.specs.List.{filter_map, range_with_len}
use Rattle.serde_json.specs.Data.{Data}
use Rattle.osn_register.specs.declared.query.Query.{Query}
use Rattle.osn_request.specs.declared.request.op.Op.{Op}
use Rattle.osn_request.specs.declared.request.op.Op.TheVariants as ops
use Rattle.osn_request.specs.declared.wire_fault.WireFault.{WireFault}
use Rattle.osn_request.specs.declared.wire_fault.WireFault.TheVariants.{NotAQuery}
use Rattle.osn_request.specs.Field.{◌>>=◌}
use Rattle.osn_request.specs.Op.{op_of}
use Rattle.osn_request.specs.QueryRequest.{query_of}
use Rattle.osn_request.specs.declared.version.Version.{Version}
use Rattle.osn_request.specs.Version.{newest_version}
use Rattle.osn_files.specs.declared.fault.LineFault.{LineFault}
use Rattle.osn_files.specs.Turns.{on_read, in_turn}

-- the most readers
abbrev pub most_readers : ℕ
most_readers = 64

-- the query of an object that asks for this, and the reader who asks it
abbrev pub question_by : Data → Op → Result (ℕ × Query) WireFault
question_by d (ops.Edit op) = Err NotAQuery
question_by d ops.Publish = Err NotAQuery
question_by d (ops.Query op) = query_of most_readers op d

abbrev pub question_in : Data → Result (ℕ × Query) WireFault
question_in d = op_of d >>= question_by d

-- the questions, with that of a line's object
abbrev pub with_question : Version → List (ℕ × Query) → Data
    → Result (List (ℕ × Query)) LineFault
with_question version asked d =
    on_read (question_in d) (λ question. Ok (asked ++ question ∷ []))

abbrev pub query_by : ℕ → ℕ × Query → Option Query
query_by reader question = if question.0 == reader then Some question.1 else None

-- the queries of a reader, in the order of the questions
abbrev pub queries_of : List (ℕ × Query) → ℕ → List Query
queries_of asked reader = filter_map (query_by reader) asked

-- the greatest reader that is named, or 0
abbrev pub greatest_reader : List (ℕ × Query) → ℕ
greatest_reader [] = 0
greatest_reader (question ∷ rest) = max question.0 (greatest_reader rest)

-- the queries of each reader, from 1 to the greatest that is named
abbrev pub by_reader : List (ℕ × Query) → List (List Query)
by_reader asked = map (queries_of asked) (range_with_len 1 (greatest_reader asked))

abbrev pub all_by_reader : Result (List (ℕ × Query)) (ℕ × LineFault)
    → Result (List (List Query)) (ℕ × LineFault)
all_by_reader (Ok asked) = Ok (by_reader asked)
all_by_reader (Err e) = Err e

-- the queries of each reader in the lines, or the first fault and the number of its line, counted
-- from 1
abbrev pub questions : List (List ℕ) → Result (List (List Query)) (ℕ × LineFault)
questions lines = all_by_reader (in_turn with_question 1 (Some newest_version) [] lines)
