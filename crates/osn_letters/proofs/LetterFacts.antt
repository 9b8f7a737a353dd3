-- What is written of the bytes of letters, piece by piece.
use Rattle.std.proofs.Common.{◌≡◌, ◌≢◌, ◌<◌, ◌∙◌, ℕ, suc, ◌+◌, true, false, List, [], ◌∷◌}
use Rattle.std.proofs.Common.{◌++◌, length, take, drop, get_or, Option, Some, None, refl, sym, ap}
use Rattle.std.proofs.Common.{subst, append_assoc, append-nil, Result, Ok, Err, OnOk, IfErr}
use Rattle.std.proofs.Common.{add-one, arith, length-append, ◌≤◌}
use Rattle.std.specs.Io.KnownBytes.{Appends}
use Rattle.osn_lines.proofs.ByteLemmas.{Appends-nothing, Appends-then}
use Rattle.std.specs.Result.{IsErrAnd}
use Rattle.std.proofs.lemmas.Result.{err_from_is_err_and}
use Rattle.std.proofs.Math.Seq.{drop-cons, take-suc}
use Rattle.std.proofs.lemmas.List.{take-append-drop, take-take, drop-take}
use Rattle.osn_letters.specs.declared.fault.LettersFault.{LettersFault}
use Rattle.osn_letters.specs.declared.fault.LettersFault.TheVariants.{NoMemory}
use Rattle.osn_letters.specs.declared.letters.Letters.{Letters}
use Rattle.osn_letters.specs.declared.parser.EndedRecord.{EndedRecord}
use Rattle.osn_letters.specs.declared.parser.RecordParser.{RecordParser}
use Rattle.osn_letters.specs.declared.separator.Separator.{Separator}
use Rattle.osn_letters.specs.declared.table.Table.{Table}
use Rattle.csv.specs.Records.{fields_of}
use Rattle.osn_letters.specs.Separators.{or_comma}
use Rattle.osn_letters.specs.LettersInside.{text_from, Wrote, Stops, TakesBytes, StopsAt}
use Rattle.osn_letters.specs.LettersInside.{Waits, is_known}
use Rattle.osn_letters.specs.LettersInside.{text_after, TakesAfter, StopsAfter}
use Rattle.osn_letters.specs.declared.start.ByteOrderMark.{ByteOrderMark}
use Rattle.osn_letters.specs.declared.start.ByteOrderMark.TheVariants.{Past, TwoBytes}
use Rattle.osn_letters.specs.ByteOrderMark.{held, unmarked, next_start}
use Rattle.osn_letters.proofs.StartFacts.{marked, unmarked_held, unmarked_end}
use Rattle.osn_letters.specs.LettersInside.{Passes}
use Rattle.osn_letters.specs.Records.{Reading, faulty}
use Rattle.osn_letters.specs.Records.{records_from, after}
use Rattle.osn_letters.specs.RecordsInside.{reading_of, record_in, Takes, RefusesByte}
use Rattle.osn_letters.specs.RecordsInside.{RefusesEnd, TakesRun}
use Rattle.osn_letters.specs.Table.{EndsEarly, IsLong, IsWhole, whole}
use Rattle.osn_letters.specs.Table.{TableBasis, Heading, Written, text_before, ended_by}
use Rattle.osn_letters.specs.Table.{written_from}
use Rattle.osn_letters.specs.Faults.{is_of_table, is_of_stream}
use Rattle.osn_letters.specs.TableInside.{heading_of, taken_record, written_of, RefusesRecord}
use Rattle.osn_letters.specs.WriterInside.{waiting}

-- the fault that a `?` passes on
pub err_of_fault : {T E : Type 0} (P : E → Type 0) (r : Result T E) (fault : E)
    → IsErrAnd r (λ e. e ≡ fault) → P fault → IfErr r P
err_of_fault {T} {E} P r fault made h =
    let err = err_from_is_err_and r made in
    subst (λ (o : Result T E). IfErr o P) (sym (err.1 ∙ ap Err err.2)) h

not_memory : (fault : LettersFault) → is_of_table fault ≡ true → fault ≢ NoMemory
not_memory fault fault_is e = absurd (cc (subst (λ f. is_of_table f ≡ true) e fault_is))

-- nothing was written
pub wrote_nothing : (out : List ℕ) (w : Written) → Wrote out out w w
wrote_nothing out w = record { text = []; out = sym (append-nil out); begins = refl }

pub wrote_then : {a b c : List ℕ} {w v u : Written} → Wrote a b w v → Wrote b c v u
    → Wrote a c w u
wrote_then {a = a} {u = u} x y = record {
  text = x.text ++ y.text;
  out = y.out ∙ ap (λ t. t ++ y.text) x.out ∙ append_assoc a x.text y.text;
  begins =
      x.begins ∙ ap (text_before x.text) y.begins
      ∙ ap (λ t. record { text = t; fault = u.fault }) (sym (append_assoc x.text y.text u.text));
}

-- a first part was written, and then it stops
pub wrote_stops : {a b c : List ℕ} {w v : Written} {fault : LettersFault} → Wrote a b w v
    → Stops b c v fault → Stops a c w fault
wrote_stops x y = record { inner = y.inner; wrote = λ fault_is. wrote_then x (y.wrote fault_is) }

-- it stops before anything was written
pub stops_here : (out new : List ℕ) (w : Written) (fault : LettersFault)
    → is_of_stream fault ≡ false → (fault ≢ NoMemory → (new ≡ out) × (w ≡ ended_by fault))
    → Stops out new w fault
stops_here out new w fault inner ended = record {
  inner = inner;
  wrote = λ fault_is. (let why = ended (not_memory fault fault_is) in
      record { text = []; out = why.0 ∙ sym (append-nil out); begins = why.1 });
}

fault_ends : (s : TableBasis) (heading : Option Heading) (r : Reading) (fault : LettersFault)
    → written_from s heading (faulty r fault ∷ []) ≡ ended_by fault
fault_ends s None r fault = refl
fault_ends s (Some heading) r fault = refl

-- a byte was not taken
pub byte_refused : (s : Letters) (p : RecordParser) (b : ℕ) (fault : LettersFault)
    → RefusesByte s.parser b fault
    → StopsAfter s (record { start = s.start; parser = p; table = s.table }) (b ∷ []) fault
byte_refused s p b fault refuses more =
    let out = waiting s.table.out in
    stops_here out out (text_after s (b ∷ more)) fault refuses.0
    (λ other. (
      refl,
      ap (written_of s.table)
          (refuses.1 other (records_from (after (reading_of s.parser) b) more))
          ∙ fault_ends _ (heading_of s.table) (reading_of s.parser) fault,
    ))

-- the end of the text was not taken
pub end_refused : (s : Letters) (fault : LettersFault) → RefusesEnd s.parser fault
    → Stops (waiting s.table.out) (waiting s.table.out) (text_after s []) fault
end_refused s fault refuses =
    let out = waiting s.table.out in
    stops_here out out (text_after s []) fault refuses.0
    (λ other. (
      refl,
      ap (written_of s.table) (refuses.1 other)
          ∙ fault_ends _ (heading_of s.table) (reading_of s.parser) fault,
    ))

-- the record that a byte ended was not taken
pub record_refused : (s : Letters) (table : Table) (q : RecordParser) (b : ℕ) (e : EndedRecord)
    (separator : Separator) (fault : LettersFault) → separator ≡ or_comma q.separator
    → Takes s.parser q b (Some e)
    → RefusesRecord s.table table (taken_record e.line separator e.flaw (fields_of q.fields)) fault
    → (more : List ℕ)
    → Stops (waiting s.table.out) (waiting table.out) (text_after s (b ∷ more)) fault
record_refused s table q b e separator fault same takes refused more =
    let refuses : RefusesRecord s.table table (record_in q e.line e.flaw) fault =
    subst (λ x. RefusesRecord s.table table
    (taken_record e.line x e.flaw (fields_of q.fields)) fault) same refused in
    stops_here (waiting s.table.out) (waiting table.out) (text_after s (b ∷ more)) fault refuses.0
    (λ other.
    let rest = records_from (after (reading_of s.parser) b) more in
    let why = refuses.1 other in
    (why.0, ap (written_of s.table) (takes.0 rest) ∙ why.1 rest))

-- bytes after bytes, after the beginning
pub after_then : (s t u : Letters) (xs ys : List ℕ) → TakesAfter s t xs → TakesAfter t u ys
    → TakesAfter s u (xs ++ ys)
after_then s t u xs ys x y more =
    subst (λ bytes. Wrote (waiting s.table.out) (waiting u.table.out) (text_after s bytes)
    (text_after u more)) (sym (append_assoc xs ys more))
    (wrote_then (x (ys ++ more)) (y more))

pub after_stops : (s t u : Letters) (xs ys : List ℕ) (fault : LettersFault) → TakesAfter s t xs
    → StopsAfter t u ys fault → StopsAfter s u (xs ++ ys) fault
after_stops s t u xs ys fault x y more =
    subst (λ bytes. Stops (waiting s.table.out) (waiting u.table.out) (text_after s bytes) fault)
    (sym (append_assoc xs ys more))
    (wrote_stops (x (ys ++ more)) (y more))

-- the first of some bytes were not taken, so all were not
pub stops_first : (s u : Letters) (xs ys : List ℕ) (fault : LettersFault)
    → StopsAfter s u xs fault → StopsAfter s u (xs ++ ys) fault
stops_first s u xs ys fault x more =
    subst (λ bytes. Stops (waiting s.table.out) (waiting u.table.out) (text_after s bytes) fault)
    (sym (append_assoc xs ys more)) (x (ys ++ more))

-- a byte that goes on with the mark
pub mark_taken : (s : Letters) (next : ByteOrderMark) (b : ℕ) → next_start s.start b ≡ Some next
    → TakesBytes s (record { start = next; parser = s.parser; table = s.table }) (b ∷ [])
mark_taken s next b h more = record {
  text = [];
  out = sym (append-nil (waiting s.table.out));
  begins = ap (text_after s) (marked s.start next b h more);
}

-- a byte that does not go on with the mark
pub text_taken : (s u : Letters) (b : ℕ) → next_start s.start b ≡ None → u.start ≡ Past
    → TakesAfter s u (held s.start ++ b ∷ []) → TakesBytes s u (b ∷ [])
text_taken s u b h past x more =
    subst (λ bytes. Wrote (waiting s.table.out) (waiting u.table.out) (text_after s bytes)
    (text_from u more))
    (append_assoc (held s.start) (b ∷ []) more ∙ sym (unmarked_held s.start b h more))
    (subst (λ start. Wrote (waiting s.table.out) (waiting u.table.out)
    (text_after s ((held s.start ++ b ∷ []) ++ more)) (text_after u (unmarked start more)))
    (sym past) (x more))

pub text_stops : (s u : Letters) (b : ℕ) (fault : LettersFault) → next_start s.start b ≡ None
    → StopsAfter s u (held s.start ++ b ∷ []) fault → StopsAt s u (b ∷ []) fault
text_stops s u b fault h x more =
    subst (λ bytes. Stops (waiting s.table.out) (waiting u.table.out) (text_after s bytes) fault)
    (append_assoc (held s.start) (b ∷ []) more ∙ sym (unmarked_held s.start b h more)) (x more)

-- at the end of the text
pub end_taken : (s t : Letters) (c : List ℕ) (w : Written) → TakesAfter s t (held s.start)
    → Wrote (waiting t.table.out) c (text_after t []) w
    → Wrote (waiting s.table.out) c (text_from s []) w
end_taken s t c w x y =
    subst (λ bytes. Wrote (waiting s.table.out) c (text_after s bytes) w)
    (sym (unmarked_end s.start)) (wrote_then (x []) y)

pub end_stops : (s t : Letters) (c : List ℕ) (fault : LettersFault)
    → TakesAfter s t (held s.start) → Stops (waiting t.table.out) c (text_after t []) fault
    → Stops (waiting s.table.out) c (text_from s []) fault
end_stops s t c fault x y =
    subst (λ bytes. Stops (waiting s.table.out) c (text_after s bytes) fault)
    (sym (unmarked_end s.start)) (wrote_stops (x []) y)

pub end_stops_held : (s t : Letters) (fault : LettersFault)
    → StopsAfter s t (held s.start) fault
    → Stops (waiting s.table.out) (waiting t.table.out) (text_from s []) fault
end_stops_held s t fault x =
    subst (λ bytes. Stops (waiting s.table.out) (waiting t.table.out) (text_after s bytes) fault)
    (sym (unmarked_end s.start)) (x [])

-- bytes after bytes
pub bytes_then : (s t u : Letters) (xs ys : List ℕ) → TakesBytes s t xs → TakesBytes t u ys
    → TakesBytes s u (xs ++ ys)
bytes_then s t u xs ys x y more =
    subst (λ bytes. Wrote (waiting s.table.out) (waiting u.table.out) (text_from s bytes)
    (text_from u more)) (sym (append_assoc xs ys more))
    (wrote_then (x (ys ++ more)) (y more))

-- some bytes more
pub take_then : (i n : ℕ) (xs : List ℕ) → take i xs ++ take n (drop i xs) ≡ take (i + n) xs
take_then i n xs =
    ap (λ l. l ++ take n (drop i xs)) (sym (take-take i (i + n) xs (omega arith)))
    ∙ (ap (λ l. take i (take (i + n) xs) ++ l) (sym (drop-take i n xs))
    ∙ take-append-drop i (take (i + n) xs))

pub part_then : (s t u : Letters) (piece part : List ℕ) (i n : ℕ) → part ≡ drop i piece
    → TakesBytes s t (take i piece) → TakesBytes t u (take n part)
    → TakesBytes s u (take (i + n) piece)
part_then s t u piece part i n is x y =
    subst (TakesBytes s u) (ap (λ l. take i piece ++ take n l) is ∙ take_then i n piece)
    (bytes_then s t u (take i piece) (take n part) x y)

-- the last bytes of a piece were not all taken, and so the piece was not
pub part_stops : (s t u : Letters) (piece part : List ℕ) (i : ℕ) (fault : LettersFault)
    → part ≡ drop i piece → TakesBytes s t (take i piece) → StopsAt t u part fault
    → StopsAt s u piece fault
part_stops s t u piece part i fault is x y more =
    subst (λ bytes. Stops (waiting s.table.out) (waiting u.table.out) (text_from s bytes) fault)
    (sym (append_assoc (take i piece) part more)
    ∙ ap (λ l. (take i piece ++ l) ++ more) is
    ∙ ap (λ l. l ++ more) (take-append-drop i piece))
    (wrote_stops (x (part ++ more)) (y more))

-- ---- a run, and a byte after it

pub run_taken : (s : Letters) (q : RecordParser) (run : List ℕ) → TakesRun s.parser q run
    → TakesAfter s (record { start = s.start; parser = q; table = s.table }) run
run_taken s q run takes more = record {
  text = [];
  out = sym (append-nil (waiting s.table.out));
  begins = ap (written_of s.table) (takes more);
}

pub byte_then : (s t u : Letters) (bytes : List ℕ) (i b : ℕ) → i < length bytes
    → b ≡ get_or bytes i 0 → TakesAfter s t (take i bytes) → TakesAfter t u (b ∷ [])
    → TakesAfter s u (take (i + 1) bytes)
byte_then s t u bytes i b low is x y =
    subst (TakesAfter s u)
    (ap (λ c. take i bytes ++ c ∷ []) is ∙ sym (take-suc bytes i 0 low)
    ∙ ap (λ k. take k bytes) (sym (add-one i)))
    (after_then s t u (take i bytes) (b ∷ []) x y)

split_at : (piece : List ℕ) (i b : ℕ) → i < length piece → b ≡ get_or piece i 0
    → (more : List ℕ)
    → take i piece ++ (b ∷ (drop (suc i) piece ++ more)) ≡ piece ++ more
split_at piece i b low is more =
    sym (append_assoc (take i piece) (b ∷ drop (suc i) piece) more)
    ∙ ap (λ c. (take i piece ++ c ∷ drop (suc i) piece) ++ more) is
    ∙ ap (λ back. (take i piece ++ back) ++ more) (sym (drop-cons piece i 0 low))
    ∙ ap (λ all. all ++ more) (take-append-drop i piece)

-- the byte was not taken
pub byte_stops : (s t u : Letters) (bytes : List ℕ) (i b : ℕ) (fault : LettersFault)
    → i < length bytes → b ≡ get_or bytes i 0 → TakesAfter s t (take i bytes)
    → StopsAfter t u (b ∷ []) fault → StopsAfter s u bytes fault
byte_stops s t u bytes i b fault low is x y more =
    let rest = drop (suc i) bytes ++ more in
    subst (λ l. Stops (waiting s.table.out) (waiting u.table.out) (text_after s l) fault)
    (split_at bytes i b low is more)
    (wrote_stops (x (b ∷ rest)) (y rest))

-- nothing was written, and the fault is not one of the table
pub nothing_written : (c : Option (List ℕ)) (w : Written) (fault : LettersFault)
    → is_of_table fault ≡ false → EndsEarly c c w fault
nothing_written c w fault other = record {
  text = [];
  appended = Appends-nothing c;
  rest = w;
  begins = refl;
  ended = λ fault_is. absurd (cc (sym other ∙ fault_is));
}

-- what was taken or not, what waits is a first part of what is written
pub piece_waits : {T : Type 0} (s t : Letters) (bytes : List ℕ) (r : Result T LettersFault)
    → waiting s.table.out ≡ [] → OnOk r (TakesBytes s t bytes) → IfErr r (StopsAt s t bytes)
    → (more : List ℕ) → Waits (waiting t.table.out) r (text_from s (bytes ++ more))
piece_waits s t bytes (Ok x) none takes stops more =
    let text = text_from s (bytes ++ more) in
    let rest = text_from t more in
    (rest, subst (λ a. Wrote a (waiting t.table.out) text rest) none (takes more))
piece_waits s t bytes (Err fault) none takes stops more =
    subst (λ a. Stops a (waiting t.table.out) (text_from s (bytes ++ more)) fault) none (stops more)

-- at the end of the text, what waits begins what is written, if nothing waited before
pub end_waits : {T : Type 0} (s t : Letters) (r : Result T LettersFault)
    → waiting s.table.out ≡ []
    → OnOk r (Wrote (waiting s.table.out) (waiting t.table.out) (text_from s []) whole)
    → IfErr r (Stops (waiting s.table.out) (waiting t.table.out) (text_from s []))
    → Waits (waiting t.table.out) r (text_from s [])
end_waits s t (Ok x) none takes stops =
    (whole, subst (λ a. Wrote a (waiting t.table.out) (text_from s []) whole) none takes)
end_waits s t (Err fault) none takes stops =
    subst (λ a. Stops a (waiting t.table.out) (text_from s []) fault) none stops

-- if it is known what waits, there is a rest after it
known_waits : {T : Type 0} (out : List ℕ) (r : Result T LettersFault) (w : Written)
    → is_known r ≡ true → Waits out r w → (rest : Written) × Wrote [] out w rest
known_waits out (Ok x) w known waits = waits
known_waits out (Err fault) w known waits = (ended_by fault, waits.wrote known)

-- what is written is at least as long as what waits, if that is known
pub waits_long : {T : Type 0} (out : List ℕ) (r : Result T LettersFault) (w : Written)
    → is_known r ≡ true → Waits out r w → 4294967295 ≤ length out → IsLong w
waits_long out r w known waits long =
    let (rest, wrote) = known_waits out r w known waits in
    omega (
      arith,
      long,
      ap length wrote.out,
      ap (λ u. length u.text) wrote.begins,
      length-append wrote.text rest.text,
    )

-- what waits was written in part
pub part_early : {T : Type 0} (c d : Option (List ℕ)) (out : List ℕ) (n : ℕ)
    (r : Result T LettersFault) (fault : LettersFault) (w : Written) → is_known r ≡ true
    → Appends c d (take n out) → is_of_table fault ≡ false → Waits out r w
    → EndsEarly c d w fault
part_early c d out n r fault w known appended other waits =
    let (rest, wrote) = known_waits out r w known waits in
    record {
      text = take n out;
      appended = appended;
      rest = text_before (drop n out) rest;
      begins =
          wrote.begins
          ∙ ap (λ t. record { text = t ++ rest.text; fault = rest.fault })
          (sym wrote.out ∙ sym (take-append-drop n out))
          ∙ ap (λ t. record { text = t; fault = rest.fault })
          (append_assoc (take n out) (drop n out) rest.text);
      ended = λ fault_is. absurd (cc (sym other ∙ fault_is));
    }

-- all of it was written
pub all_early : {T : Type 0} (c d : Option (List ℕ)) (out : List ℕ) (r : Result T LettersFault)
    → is_known r ≡ true → Appends c d out
    → IfErr r (λ fault. (w : Written) → Waits out r w → EndsEarly c d w fault)
all_early c d out (Ok x) known appended = tt
all_early c d out (Err fault) known appended =
    λ w waits.
    let wrote = waits.wrote known in
    record {
      text = wrote.text;
      appended = subst (Appends c d) wrote.out appended;
      rest = ended_by fault;
      begins = wrote.begins;
      ended = λ fault_is. refl;
    }

-- nothing was written, and it is not known what waits
pub unknown_early : {T : Type 0} (c : Option (List ℕ)) (out : List ℕ) (r : Result T LettersFault)
    → is_known r ≡ false
    → IfErr r (λ fault. (w : Written) → Waits out r w → EndsEarly c c w fault)
unknown_early c out (Ok x) unknown = absurd (cc unknown)
unknown_early c out (Err fault) unknown = λ w waits. nothing_written c w fault unknown

pub passes_then : {c d e : Option (List ℕ)} {w v u : Written} → Passes c d w v → Passes d e v u
    → Passes c e w u
passes_then {c = c} {d = d} {e = e} {u = u} x y = record {
  text = x.text ++ y.text;
  appended = Appends-then c d e x.text y.text x.appended y.appended;
  begins =
      x.begins ∙ ap (text_before x.text) y.begins
      ∙ ap (λ t. record { text = t; fault = u.fault }) (sym (append_assoc x.text y.text u.text));
}

pub passes_early : {c d e : Option (List ℕ)} {w v : Written} {fault : LettersFault}
    → Passes c d w v → EndsEarly d e v fault → EndsEarly c e w fault
passes_early x y =
    let both = passes_then x
    (record { text = y.text; appended = y.appended; begins = y.begins }) in
    record {
      text = both.text;
      appended = both.appended;
      rest = y.rest;
      begins = both.begins;
      ended = y.ended;
    }

pub passes_whole : (c d e : Option (List ℕ)) {w v : Written} → Passes c d w v → IsWhole d e v
    → IsWhole c e w
passes_whole c d e {v = v} x y = (
  ap (λ u. u.fault) x.begins ∙ y.0,
  subst (Appends c e) (ap (λ u. u.text) (sym x.begins))
      (Appends-then c d e x.text v.text x.appended y.1),
)

-- a part of the table was written, and a fault ends it that is not one of the table
pub passes_ends : {c d : Option (List ℕ)} {w v : Written} (fault : LettersFault)
    → is_of_table fault ≡ false → Passes c d w v → EndsEarly c d w fault
passes_ends {v = v} fault other x = record {
  text = x.text;
  appended = x.appended;
  rest = v;
  begins = x.begins;
  ended = λ fault_is. absurd (cc (sym other ∙ fault_is));
}

-- two bytes that were held back
pub held_takes : (s t u : Letters) (start : ByteOrderMark) → start ≡ TwoBytes
    → TakesAfter s t (0xEF ∷ []) → TakesAfter t u (0xBB ∷ []) → TakesAfter s u (held start)
held_takes s t u start is x y =
    subst (λ b. TakesAfter s u (held b)) (sym is)
    (after_then s t u (0xEF ∷ []) (0xBB ∷ []) x y)

pub held_stops : (s t u : Letters) (start : ByteOrderMark) (fault : LettersFault) → start ≡ TwoBytes
    → TakesAfter s t (0xEF ∷ []) → StopsAfter t u (0xBB ∷ []) fault
    → StopsAfter s u (held start) fault
held_stops s t u start fault is x y =
    subst (λ b. StopsAfter s u (held b) fault) (sym is)
    (after_stops s t u (0xEF ∷ []) (0xBB ∷ []) fault x y)

pub held_stops_first : (s u : Letters) (start : ByteOrderMark) (fault : LettersFault) → start
    ≡ TwoBytes → StopsAfter s u (0xEF ∷ []) fault → StopsAfter s u (held start) fault
held_stops_first s u start fault is x =
    subst (λ b. StopsAfter s u (held b) fault) (sym is)
    (stops_first s u (0xEF ∷ []) (0xBB ∷ []) fault x)
