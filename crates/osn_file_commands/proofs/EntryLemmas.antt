-- The reader of an ask, and of an entry, is one of those that a transcript knows.
use Rattle.std.proofs.Common.{◌≡◌, ℕ, ◌<◌, ◌≤◌, ℤ, pos, negsuc, Bool, true, false, List, Result}
use Rattle.std.proofs.Common.{Ok, Err, refl}
use Rattle.std.proofs.lemmas.Bool.{leb-true}
use Rattle.std.specs.Prelude.{nat_le, ◌&&◌, if◌then◌else◌}
use Rattle.serde_json.specs.Data.{Data}
use Rattle.osn_register.specs.declared.query.Query.{Query}
use Rattle.osn_request.specs.declared.member.Member.TheVariants as members
use Rattle.osn_request.specs.declared.request.op.Op.{Op}
use Rattle.osn_request.specs.declared.request.op.Op.TheVariants as ops
use Rattle.osn_request.specs.declared.request.op.QueryOp.{QueryOp}
use Rattle.osn_request.specs.declared.wire_fault.WireFault.{WireFault}
use Rattle.osn_request.specs.declared.wire_fault.WireFault.TheVariants.{UnknownReader}
use Rattle.osn_request.specs.Field.{◌>>=◌, whole_at}
use Rattle.osn_request.specs.QueryRequest.{query_of, query_by, reader_in}
use Rattle.osn_request.specs.Op.{op_of}
use Rattle.osn_request.specs.Request.{object_of}
use Rattle.osn_files.specs.Questions.{most_readers, question_by, question_in}
use Rattle.osn_file_commands.specs.TranscriptAudit.{TranscriptLine, object_at, edition_of, entry_in}
use Rattle.osn_file_commands.specs.AuditLaw.{entry_of}

abbrev HasKnownReader : ℕ → Result (ℕ × Query) WireFault → Type 0
HasKnownReader n (Ok asked) = (0 < asked.0) × (asked.0 ≤ n)
HasKnownReader n (Err f) = Unit {0}

abbrev by_number : Query → Result ℕ WireFault → Result (ℕ × Query) WireFault
by_number q number = number >>= λ r. Ok (r, q)

known_within : (n m : ℕ) (q : Query) (a b : Bool) → nat_le 1 m ≡ a → nat_le m n ≡ b
    → HasKnownReader n (by_number q (if a && b then Ok m else Err UnknownReader))
known_within n m q true true one most = (leb-true 1 m one, leb-true m n most)
known_within n m q true false one most = tt
known_within n m q false b one most = tt

known_by : (n : ℕ) (w : Result ℤ WireFault) (q : Result Query WireFault)
    → HasKnownReader n (w >>= λ reader. q >>= λ query. by_number query (reader_in n reader))
known_by n (Err f) q = tt
known_by n (Ok w) (Err f) = tt
known_by n (Ok (pos m)) (Ok q) = known_within n m q _ _ refl refl
known_by n (Ok (negsuc m)) (Ok q) = tt

query_known : (n : ℕ) (op : QueryOp) (d : Data) → HasKnownReader n (query_of n op d)
unfolding query_of
query_known n op d = known_by n (whole_at members.Reader d) (query_by op d)

question_known : (d : Data) (r : Result Op WireFault)
    → HasKnownReader most_readers (r >>= question_by d)
question_known d (Err f) = tt
question_known d (Ok (ops.Edit op)) = tt
question_known d (Ok ops.Publish) = tt
question_known d (Ok (ops.Query op)) = query_known most_readers op d

-- the reader of an entry is one of those that a transcript knows
abbrev pub EntryHasKnownReader : Result TranscriptLine WireFault → Type 0
EntryHasKnownReader (Ok e) = (0 < e.reader) × (e.reader ≤ most_readers)
EntryHasKnownReader (Err f) = Unit {0}

abbrev entry_by : ℕ × Query → Data → Result ℕ WireFault → Result TranscriptLine WireFault
entry_by asked reply edition = edition >>= λ k.
    Ok (record { reader = asked.0; query = asked.1; edition = k; reply = reply })

edition_known : (asked : ℕ × Query) (reply : Data) (edition : Result ℕ WireFault)
    → HasKnownReader most_readers (Ok asked) → EntryHasKnownReader (entry_by asked reply edition)
edition_known asked reply (Err f) h = tt
edition_known asked reply (Ok k) h = h

answer_known : (asked : Result (ℕ × Query) WireFault) (reply : Result Data WireFault)
    → HasKnownReader most_readers asked
    → EntryHasKnownReader (asked >>= λ a. reply >>= λ d. entry_by a d (edition_of d))
answer_known (Err f) reply h = tt
answer_known (Ok a) (Err f) h = tt
answer_known (Ok a) (Ok d) h = edition_known a d (edition_of d) h

ask_known : (ask reply : Result Data WireFault)
    → EntryHasKnownReader
    (ask >>= λ d. question_in d >>= λ a. reply >>= λ r. entry_by a r (edition_of r))
ask_known (Err f) reply = tt
ask_known (Ok d) reply = answer_known (question_in d) reply (question_known d (op_of d))

data_known : (d : Data) → EntryHasKnownReader (entry_in d)
unfolding entry_in
data_known d = ask_known (object_at members.Ask d) (object_at members.Reply d)

object_known : (r : Result Data WireFault) → EntryHasKnownReader (r >>= entry_in)
object_known (Err f) = tt
object_known (Ok d) = data_known d

pub entry_known : (line : List ℕ) → EntryHasKnownReader (entry_of line)
entry_known line = object_known (object_of line)
