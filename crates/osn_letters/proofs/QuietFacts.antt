-- What was read may be followed by bytes by which nothing more is written: a record that is too
-- long. So what was written of what was read is all that is written of some text.
use Rattle.std.proofs.Common.{◌≡◌, ◌<◌, ◌∙◌, ℕ, zero, suc, ◌+◌, ◌-◌, ◌==◌, Bool, true, false}
use Rattle.std.proofs.Common.{List, [], ◌∷◌, ◌++◌, length, Option, Some, None, refl, sym, ap, subst}
use Rattle.std.proofs.Common.{arith, nat_lt, append-nil, not, ◌&&◌, ◌≤◌}
use Rattle.std.specs.Io.KnownBytes.{Appends, Consumes}
use Rattle.csv.specs.declared.parser.Action.{Action}
use Rattle.csv.specs.declared.parser.State.{State}
use Rattle.csv.specs.declared.parser.State.TheVariants as st
use Rattle.csv.specs.Machine.{is_end}
use Rattle.osn_letters.specs.declared.letters.Letters.{Letters}
use Rattle.osn_letters.specs.declared.start.ByteOrderMark.{ByteOrderMark}
use Rattle.osn_letters.specs.declared.start.ByteOrderMark.TheVariants.{Nothing, OneByte, TwoBytes}
use Rattle.osn_letters.specs.declared.start.ByteOrderMark.TheVariants.{Past}
use Rattle.osn_letters.specs.declared.separator.Separator.{Separator}
use Rattle.osn_letters.specs.LettersInside.{text_from, text_after}
use Rattle.osn_letters.specs.Records.{Reading, PlacedRecord, after, is_between, moved}
use Rattle.osn_letters.specs.Records.{faulty, is_stray, most_bytes, read_byte, records_by}
use Rattle.osn_letters.specs.Records.{records_from}
use Rattle.osn_letters.specs.declared.fault.LettersFault.{LettersFault}
use Rattle.osn_letters.specs.declared.fault.LettersFault.TheVariants.{TooLong, TextAfterQuote}
use Rattle.osn_letters.specs.RecordsInside.{reading_of}
use Rattle.osn_letters.specs.ByteOrderMark.{held, next_start}
use Rattle.osn_letters.specs.Separators.{separator_at, separator_of}
use Rattle.osn_letters.specs.Table.{TableBasis, Heading, Written, EndsRead, written_from}
use Rattle.osn_letters.specs.TableInside.{heading_of, source_of}
use Rattle.std.proofs.lemmas.Bool.{ltb-true}
use Rattle.osn_letters.proofs.SeparatorFacts.{no_separator}
use Rattle.osn_letters.proofs.StartFacts.{unmarked_held}
use Rattle.osn_letters.proofs.StreamFacts.{PassesRead}

-- a byte that joins any field: no separator, no quote, no line end
abbrev IsPlain : ℕ → Type 0
IsPlain b =
    (separator_of b ≡ None) × ((b == 34) ≡ false) × ((b == 13) ≡ false) × ((b == 10) ≡ false)

abbrev ArePlain : List ℕ → Type 0
ArePlain [] = Unit {0}
ArePlain (b ∷ bytes) = IsPlain b × ArePlain bytes

plain_step : (found : Option Separator) (s : State) (b : ℕ) → IsPlain b
    → (is_between (read_byte found s b).0 ≡ false) × (is_end (read_byte found s b).1 ≡ false)
unfolding read_byte
plain_step found st.StartRecord b (none, h1, h2, h3) =
    rw (no_separator b none (separator_at found b), h1, h2, h3) (refl, refl)
plain_step found st.StartField b (none, h1, h2, h3) =
    rw (no_separator b none (separator_at found b), h1, h2, h3) (refl, refl)
plain_step found st.InField b (none, h1, h2, h3) =
    rw (no_separator b none (separator_at found b), h2, h3) (refl, refl)
plain_step found st.InQuoted b (none, h1, h2, h3) =
    rw (h1) (refl, refl)
plain_step found st.AfterQuote b (none, h1, h2, h3) =
    rw (no_separator b none (separator_at found b), h1, h2, h3) (refl, refl)
plain_step found st.InEscape b h = (refl, refl)
plain_step found st.InComment b (none, h1, h2, h3) = rw h3 (refl, refl)
plain_step found st.AfterCr b (none, h1, h2, h3) =
    rw (no_separator b none (separator_at found b), h1, h2, h3) (refl, refl)

fault_quiet : (b : TableBasis) (heading : Option Heading) (r : Reading) (fault : LettersFault)
    → (written_from b heading (faulty r fault ∷ [])).text ≡ []
fault_quiet b None r fault = refl
fault_quiet b (Some heading) r fault = refl

-- one plain byte: the record has a fault, or it grows
quiet_step : (t : TableBasis) (heading : Option Heading) (r : Reading) (b : ℕ) (s : State × Action)
    → is_between s.0 ≡ false → is_end s.1 ≡ false → (low stray : Bool)
    → nat_lt r.size (most_bytes r.keeps_going) ≡ low
    → (is_stray r.state s.0 && not r.keeps_going) ≡ stray → (more : List PlacedRecord)
    → (low ≡ true → (moved r b s).size ≡ r.size + 1 → (written_from t heading more).text ≡ [])
    → (written_from t heading (records_by r s more)).text ≡ []
quiet_step t heading r b s inside going true false is clear more quiet =
    rw (inside, is, clear, going) (quiet refl (rw inside refl))
quiet_step t heading r b s inside going true true is clear more quiet =
    rw (inside, is, clear) (fault_quiet t heading r (TextAfterQuote r.first_line))
quiet_step t heading r b s inside going false stray is clear more quiet =
    rw (inside, is) (fault_quiet t heading r (TooLong r.first_line))

most_within : (k : Bool) → most_bytes k ≤ 16777216
most_within true = omega arith
most_within false = omega arith

quiet : (t : TableBasis) (heading : Option Heading) (r : Reading) (bytes : List ℕ) → ArePlain bytes
    → 16777216 - r.size < length bytes → (written_from t heading (records_from r bytes)).text ≡ []
quiet t heading r [] plain long = absurd (omega (arith, long))
quiet t heading r (b ∷ bytes) (first, plain) long =
    let s = read_byte r.separator r.state b in
    let step = plain_step r.separator r.state b first in
    quiet_step t heading r b s step.0 step.1 (nat_lt r.size (most_bytes r.keeps_going))
    (is_stray r.state s.0 && not r.keeps_going) refl refl
    (records_from (after r b) bytes)
    (λ low grows. quiet t heading (after r b) bytes plain
    (omega (
      arith,
      long,
      grows,
      ltb-true r.size (most_bytes r.keeps_going) low,
      most_within r.keeps_going,
    )))

-- a run of plain bytes
unfoldable run : ℕ → List ℕ
run zero = []
run (suc n) = 97 ∷ run n

run_plain : (n : ℕ) → ArePlain (run n)
unfolding run
run_plain zero = tt
run_plain (suc n) = ((refl, refl, refl, refl), run_plain n)

run_long : (n : ℕ) → length (run n) ≡ n
unfolding run
run_long zero = refl
run_long (suc n) = rw (run_long n) refl

-- after what is held back as well
held_quiet : (s : Letters) (bytes : List ℕ) → ArePlain bytes → 16777216 < length bytes
    → (start : ByteOrderMark) → (text_after s (held start ++ bytes)).text ≡ []
held_quiet s bytes plain long Nothing =
    quiet (source_of s.table) (heading_of s.table) (reading_of s.parser) bytes plain
    (omega (arith, long))
held_quiet s bytes plain long Past =
    quiet (source_of s.table) (heading_of s.table) (reading_of s.parser) bytes plain
    (omega (arith, long))
held_quiet s bytes plain long OneByte =
    quiet (source_of s.table) (heading_of s.table) (reading_of s.parser) (0xEF ∷ bytes)
    ((refl, refl, refl, refl), plain) (omega (arith, long))
held_quiet s bytes plain long TwoBytes =
    quiet (source_of s.table) (heading_of s.table) (reading_of s.parser)
    (0xEF ∷ 0xBB ∷ bytes) ((refl, refl, refl, refl), ((refl, refl, refl, refl), plain))
    (omega (arith, long))

goes_on : (start : ByteOrderMark) → next_start start 97 ≡ None
goes_on Nothing = refl
goes_on OneByte = refl
goes_on TwoBytes = refl
goes_on Past = refl

run_quiet : (s : Letters) (n : ℕ) → 16777216 < n → (text_from s (97 ∷ run n)).text ≡ []
run_quiet s n high =
    ap (λ bytes. (text_after s bytes).text) (unmarked_held s.start 97 (goes_on s.start) (run n))
    ∙ held_quiet s (97 ∷ run n) ((refl, refl, refl, refl), run_plain n)
    (omega (arith, high, run_long n)) s.start

-- what was written of what was read
pub read_settled : (all : List ℕ → Written) (s : Letters) (input left c d : Option (List ℕ))
    (read : List ℕ) → Consumes input left read → PassesRead all (text_from s) c d read
    → EndsRead input left c d all
read_settled all s input left c d read consumed passes =
    let more = 97 ∷ run 16777217 in
    let passed = passes more in
    record {
      read = read;
      more = more;
      consumed = consumed;
      appended =
          subst (Appends c d)
          (sym (ap (λ w. w.text) passed.begins
          ∙ ap (λ t. passed.text ++ t) (run_quiet s 16777217 (omega arith))
          ∙ append-nil passed.text))
          passed.appended;
    }
