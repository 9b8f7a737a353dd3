-- What is read between two records: from there on, records do not depend on what was read before,
-- except for the numbers of their lines.
use Rattle.std.proofs.Common.{◌≡◌, ◌∙◌, ℕ, ◌+◌, ◌&&◌, Bool, true, false, not, List, [], ◌∷◌}
use Rattle.std.proofs.Common.{Result, Ok, Err, refl, sym, ap, subst, if◌then◌else◌, arith, nat_lt}
use Rattle.std.proofs.Common.{map, Option, None, ◌||◌}
use Rattle.csv.specs.declared.parser.State.{State}
use Rattle.csv.specs.declared.parser.State.TheVariants as st
use Rattle.csv.specs.declared.parser.Action.{Action}
use Rattle.csv.specs.declared.parser.Action.TheVariants as act
use Rattle.csv.specs.Machine.{is_end, fields_after, field_after, ends_at_end}
use Rattle.osn_letters.specs.declared.fault.LettersFault.{LettersFault}
use Rattle.osn_letters.specs.declared.fault.LettersFault.TheVariants.{TooLong, OpenQuote}
use Rattle.osn_letters.specs.declared.fault.LettersFault.TheVariants.{TextAfterQuote}
use Rattle.osn_letters.specs.declared.record_flaw.RecordFlaw.{RecordFlaw}
use Rattle.osn_letters.specs.declared.separator.Separator.{Separator}
use Rattle.osn_letters.specs.Faults.{later_fault}
use Rattle.osn_letters.specs.Separators.{or_comma, separator_after}
use Rattle.osn_letters.specs.Records.{Reading, PlacedRecord, after, ended, ends_line, faulty}
use Rattle.osn_letters.specs.Records.{flaw_by, flaw_of, is_between, is_full, is_open, is_refused}
use Rattle.osn_letters.specs.Records.{is_stray, most_bytes, moved, next_line, read_byte}
use Rattle.osn_letters.specs.Records.{reading_after, records_by, records_from}

abbrev placed : ℕ → Separator → Option RecordFlaw → Result (List (List ℕ)) LettersFault
    → PlacedRecord
placed line separator flaw fields = record {
  line = line;
  separator = separator;
  flaw = flaw;
  fields = fields;
}

abbrev pub later_fields : ℕ → Result (List (List ℕ)) LettersFault
    → Result (List (List ℕ)) LettersFault
later_fields n (Ok fields) = Ok fields
later_fields n (Err fault) = Err (later_fault n fault)

-- a record, this many lines later
abbrev pub later_record : ℕ → PlacedRecord → PlacedRecord
later_record n r = placed (r.line + n) r.separator r.flaw (later_fields n r.fields)

-- ---- one reading and another that is as many lines later

-- every byte is read alike, and the current records are the same
pub record IsLater (n : ℕ) (r q : Reading) : Type 0 where
  pub keeps : q.keeps_going ≡ r.keeps_going
  pub steps : (b : ℕ) → read_byte q.separator q.state b ≡ read_byte r.separator r.state b
  pub separator : q.separator ≡ r.separator
  pub strays : (s : State) → is_stray q.state s ≡ is_stray r.state s
  pub opened : is_open q.state ≡ is_open r.state
  pub between : is_between q.state ≡ is_between r.state
  pub fields : q.fields ≡ r.fields
  pub field : q.field ≡ r.field
  pub size : q.size ≡ r.size
  pub line : q.line ≡ r.line + n
  pub returned : q.returned ≡ r.returned
  pub first_line : q.first_line ≡ r.first_line + n
  pub stray : q.has_stray ≡ r.has_stray

later_line : (n k m : ℕ) (t : Bool) → k ≡ m + n
    → (if t then k + 1 else k) ≡ (if t then m + 1 else m) + n
later_line n k m true e = omega (arith, e)
later_line n k m false e = e

later_begun : (n k m i j : ℕ) (t : Bool) → k ≡ m + n → i ≡ j + n
    → (if t then k else i) ≡ (if t then m else j) + n
later_begun n k m i j true e f = e
later_begun n k m i j false e f = f

IsLater-moved : (n : ℕ) (r q : Reading) (b : ℕ) (s : State × Action) → IsLater n r q
    → IsLater n (moved r b s) (moved q b s)
IsLater-moved n r q b s h =
    let line : next_line q.returned q.line b ≡ next_line r.returned r.line b + n =
    ap (λ t. next_line t q.line b) h.returned
    ∙ later_line n q.line r.line (ends_line r.returned b) h.line in
    let separator = ap (λ f. separator_after f b s.1) h.separator in
    record {
      keeps = h.keeps;
      steps = λ c. ap (λ f. read_byte f s.0 c) separator;
      separator = separator;
      strays = λ c. refl;
      opened = refl;
      between = refl;
      fields =
          ap (λ x. if is_end s.1 then [] else fields_after s.1 x q.field) h.fields
          ∙ ap (λ x. if is_end s.1 then [] else fields_after s.1 r.fields x) h.field;
      field = ap (field_after s.1 b) h.field;
      size = ap (λ k. if is_between s.0 then 0 else k + 1) h.size;
      line = line;
      returned = refl;
      first_line = later_begun n (next_line q.returned q.line b) (next_line r.returned r.line b)
          q.first_line r.first_line (is_between s.0) line h.first_line;
      stray =
          ap (λ t. if is_end s.1 then false else t || is_stray q.state s.0) h.stray
          ∙ ap (λ t. if is_end s.1 then false else r.has_stray || t) (h.strays s.0);
    }

IsLater-after : (n : ℕ) (r q : Reading) (b : ℕ) → IsLater n r q
    → IsLater n (after r b) (after q b)
IsLater-after n r q b h =
    subst (λ s. IsLater n (after r b) (moved q b s)) (sym (h.steps b))
    (IsLater-moved n r q b (read_byte r.separator r.state b) h)

pub IsLater-after_all : (n : ℕ) (r q : Reading) (bytes : List ℕ) → IsLater n r q
    → IsLater n (reading_after r bytes) (reading_after q bytes)
IsLater-after_all n r q [] h = h
IsLater-after_all n r q (b ∷ bytes) h =
    IsLater-after_all n (after r b) (after q b) bytes (IsLater-after n r q b h)

-- ---- their records

-- between two records the end of the text ends none
pub between_ends : (s : State) → ends_at_end s ≡ not (is_between s)
between_ends st.StartRecord = refl
between_ends st.StartField = refl
between_ends st.InField = refl
between_ends st.InQuoted = refl
between_ends st.AfterQuote = refl
between_ends st.InEscape = refl
between_ends st.InComment = refl
between_ends st.AfterCr = refl

last_later : (n : ℕ) (unclosed ends : Bool) (a b c d : PlacedRecord) → c ≡ later_record n a
    → d ≡ later_record n b
    → (if unclosed then c ∷ [] else if ends then d ∷ [] else [])
    ≡ map (later_record n) (if unclosed then a ∷ [] else if ends then b ∷ [] else [])
last_later n true ends a b c d x y = ap (λ r. r ∷ []) x
last_later n false true a b c d x y = ap (λ r. r ∷ []) y
last_later n false false a b c d x y = refl

pick_later : (n : ℕ) (full stray ends : Bool) (a b c d e f : PlacedRecord)
    (more : List PlacedRecord) → d ≡ later_record n a → e ≡ later_record n b
    → f ≡ later_record n c
    → (if full then d ∷ [] else if stray then e ∷ [] else if ends then f ∷ map (later_record n) more
    else map (later_record n) more)
    ≡ map (later_record n) (if full then a ∷ [] else if stray then b ∷ []
    else if ends then c ∷ more else more)
pick_later n true stray ends a b c d e f more x y z = ap (λ r. r ∷ []) x
pick_later n false true ends a b c d e f more x y z = ap (λ r. r ∷ []) y
pick_later n false false true a b c d e f more x y z = ap (λ r. r ∷ map (later_record n) more) z
pick_later n false false false a b c d e f more x y z = refl

-- the current record
fault_later : (n : ℕ) (r q : Reading) (f : ℕ → LettersFault)
    → ((line : ℕ) → f (line + n) ≡ later_fault n (f line)) → IsLater n r q
    → faulty q (f q.first_line) ≡ later_record n (faulty r (f r.first_line))
fault_later n r q f later h =
    ap (λ k. placed k (or_comma q.separator) None (Err (f k))) h.first_line
    ∙ ap (λ x. placed (r.first_line + n) (or_comma x) None (Err (f (r.first_line + n)))) h.separator
    ∙ ap (λ x. placed (r.first_line + n) (or_comma r.separator) None (Err x)) (later r.first_line)

flaw_later : (n : ℕ) (r q : Reading) → IsLater n r q → flaw_of q ≡ flaw_of r
flaw_later n r q h =
    ap (λ t. flaw_by t q.size q.has_stray) h.opened
    ∙ ap (λ k. flaw_by (is_open r.state) k q.has_stray) h.size
    ∙ ap (flaw_by (is_open r.state) r.size) h.stray

ended_later : (n : ℕ) (r q : Reading) (a : Action) → IsLater n r q
    → ended q a ≡ later_record n (ended r a)
ended_later n r q a h =
    let later = placed (r.first_line + n) (or_comma r.separator) in
    ap (λ k. placed k (or_comma q.separator) (flaw_of q) (Ok (fields_after a q.fields q.field)))
    h.first_line
    ∙ ap (λ x. placed (r.first_line + n) (or_comma x) (flaw_of q)
    (Ok (fields_after a q.fields q.field))) h.separator
    ∙ ap (λ x. later x (Ok (fields_after a q.fields q.field))) (flaw_later n r q h)
    ∙ ap (λ x. later (flaw_of r) (Ok (fields_after a x q.field))) h.fields
    ∙ ap (λ x. later (flaw_of r) (Ok (fields_after a r.fields x))) h.field

by_later : (n : ℕ) (r q : Reading) (s : State × Action) (more : List PlacedRecord)
    → IsLater n r q
    → records_by q s (map (later_record n) more) ≡ map (later_record n) (records_by r s more)
by_later n r q s more h =
    let next = map (later_record n) more in
    let stray = faulty q (TextAfterQuote q.first_line) ∷ [] in
    let last : List PlacedRecord = if is_end s.1 then ended q s.1 ∷ next else next in
    let long = faulty q (TooLong q.first_line) ∷ [] in
    ap (λ k. if (not (is_between s.0) && not (nat_lt k (most_bytes q.keeps_going))) then long
    else if is_refused q (is_stray q.state s.0) then stray else last) h.size
    ∙ (ap (λ t. if (not (is_between s.0) && not (nat_lt r.size (most_bytes t))) then long
    else if (is_stray q.state s.0 && not t) then stray else last) h.keeps
    ∙ ap (λ t. if is_full r s.0 then long else if is_refused r t then stray else last)
    (h.strays s.0)
    ∙ pick_later n (is_full r s.0) (is_refused r (is_stray r.state s.0)) (is_end s.1)
    (faulty r (TooLong r.first_line)) (faulty r (TextAfterQuote r.first_line)) (ended r s.1)
    (faulty q (TooLong q.first_line)) (faulty q (TextAfterQuote q.first_line)) (ended q s.1) more
    (fault_later n r q TooLong (λ line. refl) h)
    (fault_later n r q TextAfterQuote (λ line. refl) h) (ended_later n r q s.1 h))

pub records_later : (n : ℕ) (r q : Reading) (bytes : List ℕ) → IsLater n r q
    → records_from q bytes ≡ map (later_record n) (records_from r bytes)
records_later n r q [] h =
    let last = ended q act.EndRecord in
    let unclosed = faulty q (OpenQuote q.first_line) ∷ [] in
    ap (λ t. if is_refused q t then unclosed else if ends_at_end q.state then last ∷ [] else [])
    h.opened
    ∙ ap (λ t. if (is_open r.state && not t) then unclosed
    else if ends_at_end q.state then last ∷ [] else []) h.keeps
    ∙ ap (λ t. if is_refused r (is_open r.state) then unclosed else if t then last ∷ [] else [])
    (between_ends q.state ∙ ap not h.between ∙ sym (between_ends r.state))
    ∙ last_later n (is_refused r (is_open r.state)) (ends_at_end r.state)
    (faulty r (OpenQuote r.first_line))
    (ended r act.EndRecord) (faulty q (OpenQuote q.first_line)) last
    (fault_later n r q OpenQuote (λ line. refl) h) (ended_later n r q act.EndRecord h)
records_later n r q (b ∷ bytes) h =
    ap (λ s. records_by q s (records_from (after q b) bytes)) (h.steps b)
    ∙ ap (records_by q (read_byte r.separator r.state b))
    (records_later n (after r b) (after q b) bytes (IsLater-after n r q b h))
    ∙ by_later n r q (read_byte r.separator r.state b) (records_from (after r b) bytes) h
