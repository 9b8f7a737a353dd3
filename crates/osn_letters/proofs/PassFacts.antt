-- What was taken and then written, and how a table stops.
use Rattle.std.proofs.Common.{◌≡◌, ◌∙◌, true, false, List, [], ◌++◌, ℕ, Option, Result, Ok, Err}
use Rattle.std.proofs.Common.{OnOk, refl, sym, ap, subst}
use Rattle.std.specs.Prelude.{is_ok}
use Rattle.std.specs.Io.KnownBytes.{Appends}
use Rattle.osn_letters.specs.declared.csv_text.RowWriter.{RowWriter}
use Rattle.osn_letters.specs.declared.fault.LettersFault.{LettersFault}
use Rattle.osn_letters.specs.declared.fault.LettersFault.TheVariants.{NoHeader, LacksColumn}
use Rattle.osn_letters.specs.declared.fault.LettersFault.TheVariants.{HasColumn, BadRecord}
use Rattle.osn_letters.specs.declared.fault.LettersFault.TheVariants.{TooLong, OpenQuote}
use Rattle.osn_letters.specs.declared.fault.LettersFault.TheVariants.{TextAfterQuote, ReadFault}
use Rattle.osn_letters.specs.declared.fault.LettersFault.TheVariants.{WriteFault, NoMemory}
use Rattle.osn_letters.specs.declared.letters.Letters.{Letters}
use Rattle.osn_letters.specs.Faults.{is_of_stream, is_of_table}
use Rattle.osn_letters.specs.LettersInside.{PassesBytes, Stops, TakesBytes, WritesAll, Wrote}
use Rattle.osn_letters.specs.LettersInside.{text_from}
use Rattle.osn_letters.specs.Records.{records_from}
use Rattle.osn_letters.specs.RecordsInside.{reading_of}
use Rattle.osn_letters.specs.ByteOrderMark.{unmarked}
use Rattle.osn_letters.specs.Table.{Written, text_before, ended_by, written_from}
use Rattle.osn_letters.specs.TableInside.{heading_by, source_of}
use Rattle.osn_letters.specs.WriterInside.{waiting}

given_ok : {T : Type 0} {P : Type 0} (r : Result T LettersFault) → is_ok r ≡ true → OnOk r P → P
given_ok (Ok x) ok h = h
given_ok (Err fault) ok h = absurd (cc ok)

-- letters with another writer of their table
abbrev with_writer : Letters → RowWriter → Letters
with_writer t out = record t { table = record t.table { out = out } }

-- bytes were taken, and what waited of them was written
pub passes_written : {T : Type 0} (c d : Option (List ℕ)) (s t : Letters) (out : RowWriter)
    (bytes : List ℕ) (taken : Result T LettersFault) → waiting s.table.out ≡ []
    → OnOk taken (TakesBytes s t bytes) → WritesAll c d t.table.out out taken
    → PassesBytes c d s (with_writer t out) bytes
passes_written c d s t out bytes taken none takes all more =
    let wrote = given_ok taken all.took takes more in
    let same : text_from t more ≡ text_from (with_writer t out) more =
    ap (λ x. written_from (source_of t.table) (heading_by x t.table.rows)
    (records_from (reading_of t.parser) (unmarked t.start more))) (sym all.separator) in
    record {
      text = wrote.text;
      appended =
          subst (Appends c d) (wrote.out ∙ ap (λ l. l ++ wrote.text) none) all.appended;
      begins = wrote.begins ∙ ap (text_before wrote.text) same;
    }

table_inner : (fault : LettersFault) → is_of_table fault ≡ true → is_of_stream fault ≡ false
table_inner NoHeader h = refl
table_inner (LacksColumn column line found nearest) h = refl
table_inner (HasColumn line column) h = refl
table_inner (BadRecord line fields width) h = refl
table_inner (TooLong line) h = refl
table_inner (OpenQuote line) h = refl
table_inner (TextAfterQuote line) h = refl
table_inner ReadFault h = absurd (cc h)
table_inner WriteFault h = absurd (cc h)
table_inner NoMemory h = absurd (cc h)

-- all that is written was, and a fault of the table ends it
pub last_stops : {a b : List ℕ} {w v : Written} (fault : LettersFault) → Wrote a b w v
    → v ≡ ended_by fault → is_of_table fault ≡ true → Stops a b w fault
last_stops {a} {b} {w} {v} fault wrote ended of_table = record {
  inner = table_inner fault of_table;
  wrote = λ fault_is. subst (Wrote a b w) ended wrote;
}
