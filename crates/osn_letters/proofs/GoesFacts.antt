-- What is written of records and of more after them.
use Rattle.std.proofs.Common.{◌≡◌, ◌∙◌, ℕ, ◌+◌, Bool, true, false, List, [], ◌∷◌, ◌++◌}
use Rattle.std.proofs.Common.{Option, Some, None, Result, Ok, Err, refl, sym, ap, if◌then◌else◌}
use Rattle.std.proofs.Common.{length, map, append_assoc}
use Rattle.std.specs.Prelude.{option_map, is_ok}
use Rattle.osn_letters.specs.declared.columns.Columns.{Columns}
use Rattle.osn_letters.specs.declared.fault.LettersFault.{LettersFault}
use Rattle.osn_letters.specs.declared.fault.LettersFault.TheVariants.{BadRecord}
use Rattle.osn_letters.specs.declared.record_flaw.RecordFlaw.{RecordFlaw}
use Rattle.osn_letters.specs.declared.separator.Separator.{Separator}
use Rattle.osn_letters.specs.Columns.{columns_of, own_header}
use Rattle.osn_letters.specs.Faults.{later_fault}
use Rattle.osn_letters.specs.Law.{AreSound}
use Rattle.osn_letters.specs.Records.{PlacedRecord}
use Rattle.osn_letters.specs.Table.{TableBasis, Heading, Written, text_before, ended_by, header_at}
use Rattle.osn_letters.specs.Table.{flawed_text, header_by, header_text, letter_text, row_by}
use Rattle.osn_letters.specs.Table.{row_flaw, row_of, rows_written, table_written}
use Rattle.osn_letters.proofs.LaterFacts.{later_fields, later_record}

abbrev pub with_text : List ℕ → Option LettersFault → Written
with_text text fault = record { text = text; fault = fault }

-- what is written, with its fault this many lines later
abbrev pub later : ℕ → Written → Written
later n w = with_text w.text (option_map (later_fault n) w.fault)

pub text_before_twice : (xs ys : List ℕ) (w : Written)
    → text_before xs (text_before ys w) ≡ text_before (xs ++ ys) w
text_before_twice xs ys w = ap (λ l. with_text l w.fault) (sym (append_assoc xs ys w.text))

row_later : (n line count width : ℕ) (text : List ℕ) (more : Written) (same : Bool)
    → (if same then text_before text (later n more)
    else ended_by (BadRecord (line + n) count width))
    ≡ later n (if same then text_before text more else ended_by (BadRecord line count width))
row_later n line count width text more true = refl
row_later n line count width text more false = refl

by_later : (s : TableBasis) (heading : Heading) (n line : ℕ) (fields : List (List ℕ))
    (flaw : Option RecordFlaw) (more : Written)
    → row_of s heading (line + n) fields flaw (later n more)
    ≡ later n (row_of s heading line fields flaw more)
by_later s heading n line fields None more = refl
by_later s heading n line fields (Some flaw) more =
    row_later n line (length fields) heading.width (flawed_text s heading flaw fields) more
    s.keeps_going

fields_later : (s : TableBasis) (heading : Heading) (n line : ℕ) (flaw : Option RecordFlaw)
    (fields : Result (List (List ℕ)) LettersFault) (more : Written)
    → row_by s heading (line + n) flaw (later_fields n fields) (later n more)
    ≡ later n (row_by s heading line flaw fields more)
fields_later s heading n line flaw (Err fault) more = refl
fields_later s heading n line flaw (Ok fields) more =
    by_later s heading n line fields (row_flaw heading.width flaw fields) more

pub rows_later : (s : TableBasis) (heading : Heading) (n : ℕ) (records : List PlacedRecord)
    → rows_written s heading (map (later_record n) records)
    ≡ later n (rows_written s heading records)
rows_later s heading n [] = refl
rows_later s heading n (r ∷ rest) =
    ap (row_by s heading (r.line + n) r.flaw (later_fields n r.fields))
    (rows_later s heading n rest)
    ∙ fields_later s heading n r.line r.flaw r.fields (rows_written s heading rest)

-- a table goes on after one that has no fault
abbrev GoesOn : Written → Written → Written → Type 0
GoesOn first more all = first.fault ≡ None → all ≡ text_before first.text more

row_goes : (line count width : ℕ) (text : List ℕ) (first more all : Written) (same : Bool)
    → GoesOn first more all
    → GoesOn (if same then text_before text first else ended_by (BadRecord line count width)) more
    (if same then text_before text all else ended_by (BadRecord line count width))
row_goes line count width text first more all true goes whole =
    ap (text_before text) (goes whole) ∙ text_before_twice text first.text more
row_goes line count width text first more all false goes whole = absurd (cc whole)

going_on : (text : List ℕ) (first more all : Written) → GoesOn first more all
    → GoesOn (text_before text first) more (text_before text all)
going_on text first more all goes whole =
    ap (text_before text) (goes whole) ∙ text_before_twice text first.text more

by_goes : (s : TableBasis) (heading : Heading) (line : ℕ) (fields : List (List ℕ))
    (flaw : Option RecordFlaw) (first more all : Written) → GoesOn first more all
    → GoesOn (row_of s heading line fields flaw first) more
    (row_of s heading line fields flaw all)
by_goes s heading line fields None first more all goes whole =
    going_on (letter_text s heading.separator heading.columns fields) first more all goes whole
by_goes s heading line fields (Some flaw) first more all goes whole =
    row_goes line (length fields) heading.width (flawed_text s heading flaw fields) first more all
    s.keeps_going goes whole

fields_go : (s : TableBasis) (heading : Heading) (line : ℕ) (flaw : Option RecordFlaw)
    (fields : Result (List (List ℕ)) LettersFault) (first more all : Written)
    → GoesOn first more all
    → GoesOn (row_by s heading line flaw fields first) more
    (row_by s heading line flaw fields all)
fields_go s heading line flaw (Err fault) first more all goes whole = absurd (cc whole)
fields_go s heading line flaw (Ok fields) first more all goes whole =
    by_goes s heading line fields (row_flaw heading.width flaw fields) first more all goes whole

pub rows_go : (s : TableBasis) (heading : Heading) (xs ys : List PlacedRecord)
    → GoesOn (rows_written s heading xs) (rows_written s heading ys)
    (rows_written s heading (xs ++ ys))
rows_go s heading [] ys whole = refl
rows_go s heading (r ∷ xs) ys whole =
    fields_go s heading r.line r.flaw r.fields (rows_written s heading xs)
    (rows_written s heading ys)
    (rows_written s heading (xs ++ ys)) (rows_go s heading xs ys) whole

row_sound : (line count width : ℕ) (text : List ℕ) (more : Written) (same : Bool)
    → (if same then text_before text more else ended_by (BadRecord line count width)).fault ≡ None
    → more.fault ≡ None
row_sound line count width text more true whole = whole
row_sound line count width text more false whole = absurd (cc whole)

by_sound : (s : TableBasis) (heading : Heading) (line : ℕ) (fields : List (List ℕ))
    (flaw : Option RecordFlaw) (more : Written)
    → (row_of s heading line fields flaw more).fault ≡ None → more.fault ≡ None
by_sound s heading line fields None more whole = whole
by_sound s heading line fields (Some flaw) more whole =
    row_sound line (length fields) heading.width (flawed_text s heading flaw fields) more
    s.keeps_going whole

fields_sound : (s : TableBasis) (heading : Heading) (line : ℕ) (flaw : Option RecordFlaw)
    (fields : Result (List (List ℕ)) LettersFault) (more : Written)
    → (row_by s heading line flaw fields more).fault ≡ None
    → (is_ok fields ≡ true) × (more.fault ≡ None)
fields_sound s heading line flaw (Err fault) more whole = absurd (cc whole)
fields_sound s heading line flaw (Ok fields) more whole =
    (refl, by_sound s heading line fields (row_flaw heading.width flaw fields) more whole)

-- without a fault no record has one
pub rows_sound : (s : TableBasis) (heading : Heading) (xs : List PlacedRecord)
    → (rows_written s heading xs).fault ≡ None → AreSound xs
rows_sound s heading [] whole = tt
rows_sound s heading (r ∷ xs) whole =
    let h = fields_sound s heading r.line r.flaw r.fields (rows_written s heading xs) whole in
    (h.0, rows_sound s heading xs h.1)

-- ---- a table without a fault has a header, after which its rows go on

pub record GoesBy (s : TableBasis) (written : List PlacedRecord → Written) (xs : List PlacedRecord)
    : Type 0 where
  pub heading : Heading
  pub goes : (ys : List PlacedRecord)
      → written (xs ++ ys) ≡ text_before (written xs).text (rows_written s heading ys)
  pub sound : AreSound xs

columns_go : (s : TableBasis) (columns : Result Columns LettersFault) (separator : Separator)
    (header : List (List ℕ)) (xs : List PlacedRecord)
    → (header_at s columns separator header xs).fault ≡ None
    → GoesBy s (header_at s columns separator header) xs
columns_go s (Err fault) separator header xs whole = absurd (cc whole)
columns_go s (Ok columns) separator header xs whole =
    let heading : Heading = record {
      columns = columns;
      width = length header;
      separator = separator;
    } in
    record {
      heading = heading;
      goes = λ ys.
          ap (text_before (header_text separator (own_header s.names header)))
          (rows_go s heading xs ys whole)
          ∙ text_before_twice (header_text separator (own_header s.names header))
          (rows_written s heading xs).text (rows_written s heading ys);
      sound = rows_sound s heading xs whole;
    }

header_goes : (s : TableBasis) (line : ℕ) (separator : Separator)
    (fields : Result (List (List ℕ)) LettersFault)
    (xs : List PlacedRecord) → (header_by s line separator fields xs).fault ≡ None
    → (is_ok fields ≡ true) × GoesBy s (header_by s line separator fields) xs
header_goes s line separator (Err fault) xs whole = absurd (cc whole)
header_goes s line separator (Ok header) xs whole = (
  refl,
  columns_go s (columns_of s.names line (own_header s.names header)) separator header xs
      whole,
)

pub table_goes : (s : TableBasis) (xs : List PlacedRecord) → (table_written s xs).fault ≡ None
    → GoesBy s (table_written s) xs
table_goes s [] whole = absurd (cc whole)
table_goes s (r ∷ xs) whole =
    let h = header_goes s r.line r.separator r.fields xs whole in
    record { heading = h.1.heading; goes = h.1.goes; sound = (h.0, h.1.sound) }
