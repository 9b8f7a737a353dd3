-- The records of a text are those that the kit reads.
use Rattle.std.proofs.Common.{◌≡◌, ◌∙◌, ℕ, Bool, true, false, List, [], ◌∷◌, ◌++◌, Option, Some}
use Rattle.std.proofs.Common.{None, refl, sym, ap, subst, if◌then◌else◌}
use Rattle.csv.specs.declared.parser.Config.{Config}
use Rattle.csv.specs.declared.parser.State.{State}
use Rattle.csv.specs.declared.parser.State.TheVariants.{StartRecord}
use Rattle.csv.specs.declared.parser.Action.{Action}
use Rattle.csv.specs.declared.parser.Action.TheVariants as act
use Rattle.csv.specs.Machine.{Read, next_record, step, is_end, fields_after, field_after}
use Rattle.csv.specs.Machine.{ends_at_end}
use Rattle.csv.specs.Reading.{AreRecords, Reached, strip_bom}
use Rattle.osn_letters.specs.declared.fault.LettersFault.{LettersFault}
use Rattle.osn_letters.specs.declared.fault.LettersFault.TheVariants.{TooLong, OpenQuote}
use Rattle.osn_letters.specs.declared.fault.LettersFault.TheVariants.{TextAfterQuote}
use Rattle.osn_letters.specs.declared.separator.Separator.{Separator}
use Rattle.osn_letters.specs.Law.{AreKitRecords, AreSound, all_fields}
use Rattle.osn_letters.specs.Records.{Reading, PlacedRecord, after, at_start, is_full, is_open}
use Rattle.osn_letters.specs.Records.{is_refused, is_stray, moved, faulty, ended, read_byte}
use Rattle.osn_letters.specs.Records.{reading_after}
use Rattle.osn_letters.specs.Records.{records_from, separator_in}
use Rattle.osn_letters.specs.Separators.{config_by, or_comma}
use Rattle.osn_letters.proofs.SeparatorFacts.{found_stays, settled}

-- what the kit reads next: nothing, or the first of these rows, with the others after it
abbrev ReadsRows : Config → Option Read → List (List (List ℕ)) → Type 0
ReadsRows c None rows = rows ≡ []
ReadsRows c (Some p) rows =
    (rest : List (List (List ℕ))) × (rows ≡ p.0 ∷ rest) × AreRecords c p.1 p.2 rest

-- what the kit reads next from a reading, within a record or between two: nothing, or the first of
-- these rows
abbrev Reads : Config → Reading → List ℕ → List (List (List ℕ)) → Type 0
Reads c r bytes rows = ReadsRows c (next_record c r.state r.fields r.field bytes) rows

-- at the beginning of a record these are all rows
all_read : (c : Config) (o : Option Read) (s : State) (xs : List ℕ)
    → next_record c s [] [] xs ≡ o
    → (rows : List (List (List ℕ))) → ReadsRows c o rows → AreRecords c s xs rows
unfolding Reached
all_read c None s xs is rows none =
    subst (AreRecords c s xs) (sym none) (s, xs, (refl, refl), is)
all_read c (Some p) s xs is rows (rest, first, more) =
    subst (AreRecords c s xs) (sym first)
    (more.0, more.1, (p, is, refl, more.2), more.3)

nothing_read : (c : Config) → AreRecords c StartRecord [] []
unfolding Reached next_record
nothing_read c = (StartRecord, [], (refl, refl), refl)

-- at the end of the text
end_read : (c : Config) (r : Reading) (fault : LettersFault) (unclosed ends : Bool)
    → AreSound (if unclosed then faulty r fault ∷ []
    else if ends then ended r act.EndRecord ∷ [] else [])
    → ReadsRows c (if ends then Some (r.fields ++ (r.field ∷ []), StartRecord, []) else None)
    (all_fields (if unclosed then faulty r fault ∷ []
    else if ends then ended r act.EndRecord ∷ [] else []))
end_read c r fault true ends sound = absurd (cc sound.0)
end_read c r fault false true sound = ([], refl, nothing_read c)
end_read c r fault false false sound = refl

-- what the kit reads next from a byte on, by how it reads that
abbrev next_by : Config → Reading → ℕ → List ℕ → State × Action → Option Read
next_by c r b bytes s =
    if is_end s.1 then Some (fields_after s.1 r.fields r.field, s.0, bytes)
    else next_record c s.0 (fields_after s.1 r.fields r.field) (field_after s.1 b r.field) bytes

next_after : (c : Config) (r : Reading) (b : ℕ) (bytes : List ℕ)
    → next_record c r.state r.fields r.field (b ∷ bytes) ≡ next_by c r b bytes (step c r.state b)
unfolding next_record
next_after c r b bytes = refl

byte_read : (c : Config) (r : Reading) (b : ℕ) (bytes : List ℕ) (s : State) (a : Action)
    (full stray : Bool) (f g : LettersFault) (more : List PlacedRecord)
    → (AreSound more → Reads c (moved r b (s, a)) bytes (all_fields more))
    → AreSound (if full then faulty r f ∷ [] else if stray then faulty r g ∷ []
    else if is_end a then ended r a ∷ more else more)
    → ReadsRows c (next_by c r b bytes (s, a))
    (all_fields (if full then faulty r f ∷ [] else if stray then faulty r g ∷ []
    else if is_end a then ended r a ∷ more else more))
byte_read c r b bytes s a true stray f g more reads sound = absurd (cc sound.0)
byte_read c r b bytes s a false true f g more reads sound = absurd (cc sound.0)
byte_read c r b bytes s act.EndRecord false false f g more reads sound = (
  all_fields more,
  refl,
  all_read c (next_record c s [] [] bytes) s bytes refl (all_fields more) (reads sound.1),
)
byte_read c r b bytes s act.Skip false false f g more reads sound = reads sound
byte_read c r b bytes s act.Copy false false f g more reads sound = reads sound
byte_read c r b bytes s act.EndField false false f g more reads sound = reads sound

records_read : (final : Separator) (r : Reading) (bytes : List ℕ)
    → final ≡ or_comma (reading_after r bytes).separator → AreSound (records_from r bytes)
    → Reads (config_by final) r bytes (all_fields (records_from r bytes))
unfolding next_record
records_read final r [] is sound =
    end_read (config_by final) r (OpenQuote r.first_line) (is_refused r (is_open r.state))
    (ends_at_end r.state) sound
records_read final r (b ∷ bytes) is sound =
    let c = config_by final in
    let s = read_byte r.separator r.state b in
    let same : s ≡ step c r.state b =
    settled r.separator r.state b final
    (λ x found. is ∙ ap or_comma (found_stays (after r b) bytes x found)) in
    subst (λ o. ReadsRows c o (all_fields (records_from r (b ∷ bytes))))
    (sym (next_after c r b bytes ∙ ap (next_by c r b bytes) (sym same)))
    (byte_read c r b bytes s.0 s.1 (is_full r s.0) (is_refused r (is_stray r.state s.0))
    (TooLong r.first_line) (TextAfterQuote r.first_line) (records_from (after r b) bytes)
    (records_read final (after r b) bytes is) sound)

-- the law
pub kit_records : AreKitRecords
unfolding AreKitRecords
kit_records keeps_going named text sound =
    let bytes = strip_bom text in
    let final = separator_in keeps_going named text in
    let start = at_start keeps_going named in
    all_read (config_by final) (next_record (config_by final) StartRecord [] [] bytes) StartRecord
    bytes refl (all_fields (records_from start bytes)) (records_read final start bytes refl sound)
