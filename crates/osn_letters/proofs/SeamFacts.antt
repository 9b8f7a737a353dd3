-- Two readings between records read on alike, except for the numbers of their lines.
use Rattle.std.proofs.Common.{◌≡◌, ◌≤◌, ◌∙◌, ℕ, ◌+◌, ◌-◌, ◌==◌, ◌&&◌, ◌||◌, Bool, true, false, not}
use Rattle.std.proofs.Common.{List, [], ◌∷◌, Option, Some, refl, sym, ap, subst, if◌then◌else◌}
use Rattle.std.proofs.Common.{arith, nat_lt}
use Rattle.csv.specs.declared.parser.State.{State}
use Rattle.csv.specs.declared.parser.State.TheVariants as st
use Rattle.csv.specs.declared.parser.Action.{Action}
use Rattle.csv.specs.declared.parser.Action.TheVariants as act
use Rattle.csv.specs.Machine.{carriage_return, field_after, fields_after, is_end, line_feed}
use Rattle.osn_letters.specs.declared.fault.LettersFault.TheVariants.{TooLong, TextAfterQuote}
use Rattle.osn_letters.specs.declared.separator.Separator.{Separator}
use Rattle.osn_letters.specs.Records.{Reading, PlacedRecord, after, ended, ends_line, faulty}
use Rattle.osn_letters.specs.Records.{is_between, is_full, is_refused, is_stray, line_ends}
use Rattle.osn_letters.specs.Records.{most_bytes, moved, read_byte, reading_after, records_from}
use Rattle.osn_letters.specs.Separators.{separator_after, separator_at, separator_byte}
use Rattle.osn_letters.proofs.ClearFacts.{IsClear, between_clear, between_step, between_stray}
use Rattle.osn_letters.proofs.LaterFacts.{IsLater}

-- ---- lines

end_more : (line more : ℕ) (t : Bool)
    → (if t then line + 1 else line) + more ≡ line + ((if t then 1 else 0) + more)
end_more line more true = omega arith
end_more line more false = omega arith

-- the line after the bytes
pub line_after : (r : Reading) (bytes : List ℕ)
    → (reading_after r bytes).line ≡ r.line + line_ends r.returned bytes
line_after r [] = omega arith
line_after r (b ∷ bytes) =
    line_after (after r b) bytes
    ∙ end_more r.line (line_ends (b == carriage_return) bytes) (ends_line r.returned b)

-- one reading is at the line of another or after it, and so after a line feed. Both are of one kind
pub record IsPast (r q : Reading) : Type 0 where
  pub keeps : q.keeps_going ≡ r.keeps_going
  pub line : r.line ≤ q.line
  pub feed : r.line + (if q.returned then 1 else 0) ≤ q.line + (if r.returned then 1 else 0)

pub IsPast-itself : (r : Reading) → IsPast r r
IsPast-itself r = record { keeps = refl; line = omega arith; feed = omega arith }

past_step : (line : ℕ) (before return feed : Bool)
    → (line ≤ (if return || (feed && not before) then line + 1 else line))
    × (line + (if return then 1 else 0)
    ≤ (if return || (feed && not before) then line + 1 else line) + (if before then 1 else 0))
past_step line true true feed = (omega arith, omega arith)
past_step line false true feed = (omega arith, omega arith)
past_step line true false true = (omega arith, omega arith)
past_step line true false false = (omega arith, omega arith)
past_step line false false true = (omega arith, omega arith)
past_step line false false false = (omega arith, omega arith)

pub IsPast-after_all : (r q : Reading) (bytes : List ℕ) → IsPast r q
    → IsPast r (reading_after q bytes)
IsPast-after_all r q [] h = h
IsPast-after_all r q (b ∷ bytes) h =
    let step = past_step q.line q.returned (b == carriage_return) (b == line_feed) in
    IsPast-after_all r (after q b) bytes
    (record {
      keeps = h.keeps;
      line = omega (arith, h.line, step.0);
      feed = omega (arith, h.feed, step.1);
    })

-- of two readings, the one that is further on is so after one byte more
past_both : (i j : ℕ) (t u return feed : Bool) → i ≤ j
    → i + (if u then 1 else 0) ≤ j + (if t then 1 else 0)
    → (if return || (feed && not t) then i + 1 else i)
    ≤ (if return || (feed && not u) then j + 1 else j)
past_both i j t u true feed h k = omega (arith, h)
past_both i j true true false true h k = h
past_both i j false false false true h k = omega (arith, h)
past_both i j true false false true h k = omega (arith, h)
past_both i j false true false true h k = omega (arith, k)
past_both i j t u false false h k = h

-- ---- the first byte after a record

-- it ends no line unless it is between two records itself
abbrev start_step : Bool → Bool → Bool → Bool → State × Action
start_step quote comma return feed =
    if return || feed then (st.StartRecord, act.Skip)
    else if quote then (st.InQuoted, act.Skip)
    else if comma then (st.StartField, act.EndField)
    else if return || feed then (if return then st.AfterCr else st.StartRecord, act.EndRecord)
    else (st.InField, act.Copy)

start_ends : (quote comma return feed : Bool)
    → is_end (start_step quote comma return feed).1 ≡ false
start_ends quote comma true feed = refl
start_ends quote comma false true = refl
start_ends true comma false false = refl
start_ends false true false false = refl
start_ends false false false false = refl

start_lines : (quote comma return feed : Bool)
    → is_between (start_step quote comma return feed).0 ≡ (return || feed)
start_lines quote comma true feed = refl
start_lines quote comma false true = refl
start_lines true comma false false = refl
start_lines false true false false = refl
start_lines false false false false = refl

-- the byte separates fields
abbrev splits : Option Separator → ℕ → Bool
splits found b = b == separator_byte (separator_at found b)

start_is : (found : Option Separator) (b : ℕ) → read_byte found st.StartRecord b
    ≡ start_step (b == 34) (splits found b) (b == 13) (b == 10)
unfolding read_byte
start_is found b = refl

first_is : (r : Reading) (b : ℕ) → is_between r.state ≡ true
    → read_byte r.separator r.state b
    ≡ start_step (b == 34) (splits r.separator b) (b == 13) (b == 10)
first_is r b between = between_step r.separator r.state between b ∙ start_is r.separator b

pick_none : (full stray ends : Bool) (x y z : PlacedRecord) (more : List PlacedRecord)
    → full ≡ false → stray ≡ false → ends ≡ false
    → (if full then x ∷ [] else if stray then y ∷ [] else if ends then z ∷ more else more) ≡ more
pick_none true stray ends x y z more e f g = absurd (cc e)
pick_none false true ends x y z more e f g = absurd (cc f)
pick_none false false true x y z more e f g = absurd (cc g)
pick_none false false false x y z more e f g = refl

and_false : (t : Bool) → (t && false) ≡ false
and_false true = refl
and_false false = refl

most_room : (k : Bool) → nat_lt 0 (most_bytes k) ≡ true
most_room true = refl
most_room false = refl

-- the first byte after a record ends no record
pub first_records : (r : Reading) (b : ℕ) (bytes : List ℕ) → IsClear r
    → is_between r.state ≡ true
    → records_from r (b ∷ bytes) ≡ records_from (after r b) bytes
first_records r b bytes clear between =
    let s = read_byte r.separator r.state b in
    pick_none (is_full r s.0) (is_refused r (is_stray r.state s.0)) (is_end s.1)
    (faulty r (TooLong r.first_line)) (faulty r (TextAfterQuote r.first_line)) (ended r s.1)
    (records_from (after r b) bytes)
    (ap (λ k. not (is_between s.0) && not (nat_lt k (most_bytes r.keeps_going)))
    (clear.between between).0
    ∙ ap (λ t. not (is_between s.0) && not t) (most_room r.keeps_going)
    ∙ and_false (not (is_between s.0)))
    (ap (is_refused r) (between_stray r.state between s.0))
    (ap (λ x. is_end x.1) (first_is r b between)
    ∙ start_ends (b == 34) (splits r.separator b) (b == 13) (b == 10))

-- ---- two readings

begun_later : (n i j k l : ℕ) (t return feed u v : Bool) → t ≡ (return || feed)
    → (if return || (feed && not u) then i + 1 else i)
    ≡ (if return || (feed && not v) then j + 1 else j) + n
    → k ≡ i → l ≡ j
    → (if t then (if return || (feed && not u) then i + 1 else i) else k)
    ≡ (if t then (if return || (feed && not v) then j + 1 else j) else l) + n
begun_later n i j k l true return feed u v e line x y = line
begun_later n i j k l false true feed u v e line x y = absurd (cc e)
begun_later n i j k l false false true u v e line x y = absurd (cc e)
begun_later n i j k l false false false u v e line x y = x ∙ line ∙ ap (λ m. m + n) (sym y)

-- a reading is between two records of a text whose separator is found
pub record IsBetweenRecords (x : Separator) (r : Reading) : Type 0 where
  pub clear : IsClear r
  pub between : is_between r.state ≡ true
  pub separator_is : r.separator ≡ Some x

-- of two readings between records, one is as many lines later from the first byte on
first_later : (x : Separator) (r q : Reading) (b n : ℕ) → IsBetweenRecords x r
    → IsBetweenRecords x q → q.keeps_going ≡ r.keeps_going
    → (after q b).line ≡ (after r b).line + n → IsLater n (after r b) (after q b)
first_later x r q b n h k keeps line =
    let s = read_byte r.separator r.state b in
    let separator = k.separator_is ∙ sym h.separator_is in
    let steps : read_byte q.separator q.state b ≡ s =
    between_step q.separator q.state k.between b
    ∙ ap (λ f. read_byte f st.StartRecord b) separator
    ∙ sym (between_step r.separator r.state h.between b) in
    let first = h.clear.clear (between_clear r.state h.between) in
    let then_ = k.clear.clear (between_clear q.state k.between) in
    let here = h.clear.between h.between in
    let there = k.clear.between k.between in
    let fields = then_.0 ∙ sym first.0 in
    let field = then_.1 ∙ sym first.1 in
    let found = ap (λ f. separator_after f b s.1) separator in
    let lines : is_between s.0 ≡ ((b == 13) || (b == 10)) =
    ap (λ y. is_between y.0) (first_is r b h.between)
    ∙ start_lines (b == 34) (splits r.separator b) (b == 13) (b == 10) in
    subst (λ y. IsLater n (moved r b s) (moved q b y)) (sym steps) (record {
      keeps = keeps;
      steps = λ c. ap (λ f. read_byte f s.0 c) found;
      separator = found;
      strays = λ c. refl;
      opened = refl;
      between = refl;
      fields =
          ap (λ y. if is_end s.1 then [] else fields_after s.1 y q.field) fields
          ∙ ap (λ y. if is_end s.1 then [] else fields_after s.1 r.fields y) field;
      field = ap (field_after s.1 b) field;
      size = ap (λ y. if is_between s.0 then 0 else y + 1) (there.0 ∙ sym here.0);
      line = line;
      returned = refl;
      first_line = begun_later n q.line r.line q.first_line r.first_line (is_between s.0)
          (b == 13) (b == 10)
          q.returned r.returned lines line there.1 here.1;
      stray =
          ap (λ t. if is_end s.1 then false else t || is_stray q.state s.0)
          (then_.2 ∙ sym first.2)
          ∙ ap (λ t. if is_end s.1 then false else r.has_stray || t)
          (between_stray q.state k.between s.0 ∙ sym (between_stray r.state h.between s.0));
    })

-- how many lines
pub record IsLaterOn (r q : Reading) : Type 0 where
  pub more : ℕ
  pub later : IsLater more r q

pub seam_later : (x : Separator) (r q : Reading) (b : ℕ) → IsBetweenRecords x r
    → IsBetweenRecords x q → IsPast r q
    → IsLaterOn (after r b) (after q b)
seam_later x r q b h k past =
    let low : (after r b).line ≤ (after q b).line =
    past_both r.line q.line r.returned q.returned (b == carriage_return) (b == line_feed)
    past.line past.feed in
    let n = (after q b).line - (after r b).line in
    record { more = n; later = first_later x r q b n h k past.keeps (omega (arith, low)) }
