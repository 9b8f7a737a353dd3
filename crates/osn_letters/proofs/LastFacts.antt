-- The record that the end of the text ends.
use Rattle.std.proofs.Common.{◌≡◌, ◌∙◌, ℕ, [], ◌∷◌, Some, None, Ok, ap, subst}
use Rattle.csv.specs.Records.{fields_of}
use Rattle.osn_letters.specs.declared.fault.LettersFault.{LettersFault}
use Rattle.osn_letters.specs.declared.letters.Letters.{Letters}
use Rattle.osn_letters.specs.declared.parser.EndedRecord.{EndedRecord}
use Rattle.osn_letters.specs.declared.parser.RecordParser.{RecordParser}
use Rattle.osn_letters.specs.declared.separator.Separator.{Separator}
use Rattle.osn_letters.specs.declared.table.Table.{Table}
use Rattle.osn_letters.specs.LettersInside.{Stops, Wrote, text_after}
use Rattle.osn_letters.specs.Records.{last_record}
use Rattle.osn_letters.specs.RecordsInside.{reading_of, record_in, records_given}
use Rattle.osn_letters.specs.Separators.{or_comma}
use Rattle.osn_letters.specs.TableInside.{RefusesRecord, TakesRecords, taken_record, written_of}
use Rattle.osn_letters.specs.WriterInside.{waiting}
use Rattle.osn_letters.proofs.LetterFacts.{stops_here, wrote_nothing}

-- the end of the text ends no record
pub none_last : (s : Letters) (q : RecordParser)
    → last_record (reading_of s.parser) ≡ records_given q None
    → Wrote (waiting s.table.out) (waiting s.table.out) (text_after s []) (written_of s.table [])
none_last s q given =
    subst (λ w. Wrote (waiting s.table.out) (waiting s.table.out) (text_after s []) w)
    (ap (written_of s.table) given) (wrote_nothing (waiting s.table.out) (text_after s []))

-- the last record of the text was taken
pub last_taken : (s : Letters) (table : Table) (q : RecordParser) (e : EndedRecord)
    (separator : Separator) → separator ≡ or_comma q.separator
    → last_record (reading_of s.parser) ≡ records_given q (Some e)
    → TakesRecords s.table table
    (taken_record e.line separator e.flaw (fields_of q.fields) ∷ [])
    → Wrote (waiting s.table.out) (waiting table.out) (text_after s []) (written_of table [])
last_taken s table q e separator same given took =
    let takes : TakesRecords s.table table (record_in q e.line e.flaw ∷ []) =
    subst (λ x. TakesRecords s.table table
    (taken_record e.line x e.flaw (fields_of q.fields) ∷ [])) same took in
    record {
      text = takes.text;
      out = takes.out;
      begins = ap (written_of s.table) given ∙ takes.goes [];
    }

-- the last record of the text was not taken
pub last_refused : (s : Letters) (table : Table) (q : RecordParser) (e : EndedRecord)
    (separator : Separator) (fault : LettersFault) → separator ≡ or_comma q.separator
    → last_record (reading_of s.parser) ≡ records_given q (Some e)
    → RefusesRecord s.table table (taken_record e.line separator e.flaw (fields_of q.fields)) fault
    → Stops (waiting s.table.out) (waiting table.out) (text_after s []) fault
last_refused s table q e separator fault same given refused =
    let refuses : RefusesRecord s.table table (record_in q e.line e.flaw) fault =
    subst (λ x. RefusesRecord s.table table
    (taken_record e.line x e.flaw (fields_of q.fields)) fault) same refused in
    stops_here (waiting s.table.out) (waiting table.out) (text_after s []) fault refuses.0
    (λ other.
    let why = refuses.1 other in
    (why.0, ap (written_of s.table) given ∙ why.1 []))
