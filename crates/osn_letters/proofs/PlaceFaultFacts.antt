-- No fault of a table of places is one of the input.
use Rattle.std.proofs.Common.{◌≡◌, ◌≢◌, ℕ, Bool, true, false, if◌then◌else◌, List, [], ◌∷◌}
use Rattle.std.proofs.Common.{Option, Some, None, Result, Ok, Err, IfErr, MatchResult, ok_or}
use Rattle.std.proofs.Common.{refl, sym, subst, length, get_or, ◌==◌}
use Rattle.std.specs.Str.{bytes_eq}
use Rattle.osn_letters.specs.declared.fault.LettersFault.{LettersFault}
use Rattle.osn_letters.specs.declared.fault.LettersFault.TheVariants as letters
use Rattle.osn_letters.specs.declared.place_columns.PlaceColumns.{PlaceColumns}
use Rattle.osn_letters.specs.declared.places_fault.PlacesFault.{PlacesFault}
use Rattle.osn_letters.specs.declared.places_fault.PlacesFault.TheVariants as faults
use Rattle.osn_letters.specs.declared.places_fault.PlacesColumn.TheVariants as column
use Rattle.osn_grammar.specs.Simple.{◌>>=◌}
use Rattle.osn_letters.specs.Columns.{column_named}
use Rattle.osn_letters.specs.Faults.{EndsStream}
use Rattle.osn_letters.specs.PlaceEntries.{PlaceEntry, code_of}
use Rattle.osn_letters.specs.Places.{columns_in, entry_at, entry_of, lacks, with_code}
use Rattle.osn_letters.specs.Places.{entries_after, entries_of, places_in, with_entry}
use Rattle.osn_letters.specs.PlacesFaults.{column_name, is_read_fault, of_letters, of_record}
use Rattle.osn_letters.specs.Records.{PlacedRecord, records_of}
use Rattle.osn_letters.specs.RowFields.{text_in_field}

record Unread {A : Type 0} (r : Result A PlacesFault) : Type 0 where
  other : IfErr r (λ fault. is_read_fault fault ≡ false)

unread_then : {A B : Type 0} (r : Result A PlacesFault) (f : A → Result B PlacesFault) → Unread r
    → ((x : A) → Unread (f x)) → Unread (r >>= f)
unread_then (Ok x) f here further = further x
unread_then (Err fault) f here further = record { other = here.other }

unread_letters : (fault : LettersFault) → is_read_fault (of_letters fault) ≡ false
unread_letters (letters.TooLong line) = refl
unread_letters (letters.OpenQuote line) = refl
unread_letters (letters.TextAfterQuote line) = refl
unread_letters letters.NoHeader = refl
unread_letters (letters.LacksColumn column line found nearest) = refl
unread_letters (letters.HasColumn line column) = refl
unread_letters (letters.BadRecord line fields width) = refl
unread_letters letters.ReadFault = refl
unread_letters letters.WriteFault = refl
unread_letters letters.NoMemory = refl

unread_record : (fields : Result (List (List ℕ)) LettersFault) → Unread (of_record fields)
unread_record (Ok fields) = record { other = tt }
unread_record (Err fault) = record { other = unread_letters fault }

abbrev columns_at : ℕ → ℕ → ℕ → PlaceColumns
columns_at place code width = record { place = place; code = code; width = width }

columns_by : (line : ℕ) (header : List (List ℕ)) (place code : Option ℕ)
    → Unread (ok_or place (lacks line header column.Place)
    >>= λ p. ok_or code (lacks line header column.Code)
    >>= λ c. Ok (columns_at p c (length header)))
columns_by line header None code = record { other = refl }
columns_by line header (Some place) None = record { other = refl }
columns_by line header (Some place) (Some code) = record { other = tt }

unread_columns : (line : ℕ) (header : List (List ℕ)) → Unread (columns_in line header)
unread_columns line header =
    columns_by line header (column_named (column_name column.Place) header)
    (column_named (column_name column.Code) header)

entry_by : (line n width : ℕ) (is_wide : Bool) (place code : Option (List ℕ))
    → Unread (if is_wide then entry_of line place code else Err (faults.BadRecord line n width))
entry_by line n width false place code = record { other = refl }
entry_by line n width true None code = record { other = refl }
entry_by line n width true (Some place) None = record { other = refl }
entry_by line n width true (Some place) (Some code) = record { other = tt }

unread_entry : (columns : PlaceColumns) (line : ℕ) (fields : List (List ℕ))
    → Unread (entry_at columns line fields)
unread_entry columns line fields =
    entry_by line (length fields) columns.width (length fields == columns.width)
    (text_in_field (get_or fields columns.place []))
    (text_in_field (get_or fields columns.code []))

code_by : (es : List PlaceEntry) (line : ℕ) (place : List ℕ) (is_same : Bool)
    → Unread (if is_same then Ok es else Err (faults.TwoCodes line place))
code_by es line place true = record { other = tt }
code_by es line place false = record { other = refl }

unread_code : (es : List PlaceEntry) (line : ℕ) (e : PlaceEntry) (code : Option (List ℕ))
    → Unread (with_code es line e code)
unread_code es line e None = record { other = tt }
unread_code es line e (Some code) = code_by es line e.place (bytes_eq code e.code)

unread_after : (columns : PlaceColumns) (es : List PlaceEntry) (rs : List PlacedRecord)
    → Unread (entries_after columns es rs)
unread_after columns es [] = record { other = tt }
unread_after columns es (r ∷ rest) =
    unread_then (of_record r.fields) (λ fields. entry_at columns r.line fields
    >>= λ e. with_entry es r.line e >>= λ more. entries_after columns more rest)
    (unread_record r.fields) (λ fields.
    unread_then (entry_at columns r.line fields) (λ e. with_entry es r.line e
    >>= λ more. entries_after columns more rest)
    (unread_entry columns r.line fields) (λ e.
    unread_then (with_entry es r.line e) (λ more. entries_after columns more rest)
    (unread_code es r.line e (code_of e.place es)) (λ more. unread_after columns more rest)))

unread_all : (es : List PlaceEntry) (rs : List PlacedRecord) → Unread (entries_of es rs)
unread_all es [] = record { other = refl }
unread_all es (r ∷ rest) =
    unread_then (of_record r.fields) (λ header. columns_in r.line header
    >>= λ columns. entries_after columns es rest)
    (unread_record r.fields) (λ header.
    unread_then (columns_in r.line header) (λ columns. entries_after columns es rest)
    (unread_columns r.line header) (λ columns. unread_after columns es rest))

-- no fault of a text of places is one of reading
pub unread_fault : (text : List ℕ) (fault : PlacesFault)
    → ((fault ≢ faults.NoMemory) → places_in text ≡ Err fault) → is_read_fault fault ≡ false
unread_fault text faults.ReadFault unless_unmade =
    let is = unless_unmade (λ e. absurd (cc e)) in
    subst (λ r. IfErr r (λ fault. is_read_fault fault ≡ false)) is
    (unread_all [] (records_of false None text)).other
unread_fault text faults.NoHeader unless_unmade = refl
unread_fault text (faults.LacksColumn column line found) unless_unmade = refl
unread_fault text (faults.BadRecord line fields width) unless_unmade = refl
unread_fault text (faults.TooLong line) unless_unmade = refl
unread_fault text (faults.OpenQuote line) unless_unmade = refl
unread_fault text (faults.TextAfterQuote line) unless_unmade = refl
unread_fault text (faults.NotUtf8 line) unless_unmade = refl
unread_fault text (faults.TwoCodes line place) unless_unmade = refl
unread_fault text faults.NoMemory unless_unmade = refl

-- the source is as sound as it was
pub sound_after : {A : Type 0} (r : Result A PlacesFault) (old new : Bool) (Long : Type 0)
    → new ≡ old → IfErr r (λ fault. is_read_fault fault ≡ false)
    → MatchResult r (λ x. new ≡ old) (λ f. EndsStream (is_read_fault f) old new Long)
sound_after (Ok x) old new Long same other = same
sound_after (Err f) old new Long same other =
    subst (λ b. EndsStream b old new Long) (sym other) same
