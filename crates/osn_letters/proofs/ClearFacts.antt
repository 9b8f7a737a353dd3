-- Between two records there is no current record.
use Rattle.std.proofs.Common.{◌≡◌, ◌∙◌, ℕ, ◌+◌, ◌==◌, ◌||◌, ◌⊎◌, Bool, true, false, not, List, []}
use Rattle.std.proofs.Common.{◌∷◌, ◌++◌, Option, refl, sym, ap, if◌then◌else◌, ⊎_elim, inl}
use Rattle.std.proofs.Common.{inr}
use Rattle.csv.specs.declared.parser.State.{State}
use Rattle.csv.specs.declared.parser.State.TheVariants as st
use Rattle.csv.specs.declared.parser.Action.{Action}
use Rattle.csv.specs.declared.parser.Action.TheVariants as act
use Rattle.csv.specs.Machine.{is_end, fields_after, field_after}
use Rattle.osn_letters.specs.declared.fault.LettersFault.{LettersFault}
use Rattle.osn_letters.specs.declared.fault.LettersFault.TheVariants.{TooLong, TextAfterQuote}
use Rattle.osn_letters.specs.declared.separator.Separator.{Separator}
use Rattle.osn_letters.specs.Law.{AreSound}
use Rattle.osn_letters.specs.Records.{Reading, PlacedRecord, after, at_start, ended}
use Rattle.osn_letters.specs.Records.{faulty, is_between, is_full, is_open, is_refused, is_stray}
use Rattle.osn_letters.specs.Records.{last_record, moved, next_line, read_byte, reading_after}
use Rattle.osn_letters.specs.Records.{records_from}
use Rattle.osn_letters.specs.Separators.{separator_at, separator_byte}
use Rattle.osn_letters.proofs.LaterFacts.{between_ends}

abbrev is_clear : State → Bool
is_clear st.InComment = true
is_clear s = is_between s

pub record IsClear (r : Reading) : Type 0 where
  pub clear : is_clear r.state ≡ true → (r.fields ≡ []) × (r.field ≡ []) × (r.has_stray ≡ false)
  pub between : is_between r.state ≡ true → (r.size ≡ 0) × (r.first_line ≡ r.line)

pub clear_start : (k : Bool) (named : Option Separator) → IsClear (at_start k named)
clear_start k named = record { clear = λ _. (refl, refl, refl); between = λ _. (refl, refl) }

clear_stray : (s t : State) → is_clear s ≡ true → is_stray s t ≡ false
clear_stray st.StartRecord t h = refl
clear_stray st.AfterCr t h = refl
clear_stray st.StartField t h = absurd (cc h)
clear_stray st.InField t h = absurd (cc h)
clear_stray st.InQuoted t h = absurd (cc h)
clear_stray st.AfterQuote t h = absurd (cc h)
clear_stray st.InEscape t h = absurd (cc h)
clear_stray st.InComment t h = refl

-- what is between two records after a byte has ended one, or was between two
abbrev Clears : Bool → State × Action → Type 0
Clears was s =
    is_clear s.0 ≡ true → (s.1 ≡ act.EndRecord) ⊎ ((s.1 ≡ act.Skip) × (was ≡ true))

-- the byte separates fields
abbrev splits : Option Separator → ℕ → Bool
splits found b = b == separator_byte (separator_at found b)

-- a byte in a field, by whether it is a separator, a carriage return or a line feed
abbrev field_step : Bool → Bool → Bool → State × Action
field_step comma return feed =
    if comma then (st.StartField, act.EndField)
    else if return || feed then (if return then st.AfterCr else st.StartRecord, act.EndRecord)
    else (st.InField, act.Copy)

field_clears : (was comma return feed : Bool) → Clears was (field_step comma return feed)
field_clears was true return feed h = absurd (cc h)
field_clears was false true feed h = inl refl
field_clears was false false true h = inl refl
field_clears was false false false h = absurd (cc h)

-- a byte at the beginning of a field, by whether it is a quote, a separator, a carriage return or a
-- line feed
abbrev begin_step : Bool → Bool → Bool → Bool → State × Action
begin_step quote comma return feed =
    if quote then (st.InQuoted, act.Skip) else field_step comma return feed

begin_clears : (was quote comma return feed : Bool)
    → Clears was (begin_step quote comma return feed)
begin_clears was true comma return feed h = absurd (cc h)
begin_clears was false comma return feed h = field_clears was comma return feed h

record_clears : (quote comma return feed : Bool)
    → Clears true (if return || feed then (st.StartRecord, act.Skip)
    else begin_step quote comma return feed)
record_clears quote comma true feed h = inr (refl, refl)
record_clears quote comma false true h = inr (refl, refl)
record_clears quote comma false false h = begin_clears true quote comma false false h

return_clears : (quote comma return feed : Bool)
    → Clears true (if feed then (st.StartRecord, act.Skip)
    else if return || feed then (st.StartRecord, act.Skip)
    else begin_step quote comma return feed)
return_clears quote comma return true h = inr (refl, refl)
return_clears quote comma return false h = record_clears quote comma return false h

quoted_clears : (was quote : Bool)
    → Clears was (if quote then (st.AfterQuote, act.Skip) else (st.InQuoted, act.Copy))
quoted_clears was true h = absurd (cc h)
quoted_clears was false h = absurd (cc h)

quote_clears : (was quote comma return feed : Bool)
    → Clears was (if quote then (st.InQuoted, act.Copy) else field_step comma return feed)
quote_clears was true comma return feed h = absurd (cc h)
quote_clears was false comma return feed h = field_clears was comma return feed h

comment_clears : (feed : Bool)
    → Clears true (if feed then (st.StartRecord, act.Skip) else (st.InComment, act.Skip))
comment_clears true h = inr (refl, refl)
comment_clears false h = inr (refl, refl)

step_clears : (found : Option Separator) (s : State) (b : ℕ)
    → Clears (is_clear s) (read_byte found s b)
unfolding read_byte
step_clears found st.StartRecord b = record_clears (b == 34) (splits found b) (b == 13) (b == 10)
step_clears found st.StartField b =
    begin_clears false (b == 34) (splits found b) (b == 13) (b == 10)
step_clears found st.InField b = field_clears false (splits found b) (b == 13) (b == 10)
step_clears found st.InQuoted b = quoted_clears false (b == 34)
step_clears found st.AfterQuote b =
    quote_clears false (b == 34) (splits found b) (b == 13) (b == 10)
step_clears found st.InEscape b = λ h. absurd (cc h)
step_clears found st.InComment b = comment_clears (b == 10)
step_clears found st.AfterCr b = return_clears (b == 34) (splits found b) (b == 13) (b == 10)

IsClear-moved : (r : Reading) (b : ℕ) (s : State × Action) → IsClear r
    → Clears (is_clear r.state) s → IsClear (moved r b s)
IsClear-moved r b s h clears = record {
  clear = λ clear. ⊎_elim
      (λ e. (
        ap (λ a. if is_end a then [] else fields_after a r.fields r.field) e,
        ap (λ a. field_after a b r.field) e,
        ap (λ a. if is_end a then false else r.has_stray || is_stray r.state s.0) e,
      ))
      (λ k. (
        ap (λ a. if is_end a then [] else fields_after a r.fields r.field) k.0 ∙ (h.clear k.1).0,
        ap (λ a. field_after a b r.field) k.0 ∙ (h.clear k.1).1,
        ap (λ a. if is_end a then false else r.has_stray || is_stray r.state s.0) k.0
            ∙ ap (λ t. t || is_stray r.state s.0) (h.clear k.1).2
            ∙ clear_stray r.state s.0 k.1,
      ))
      (clears clear);
  between = λ between. (
    ap (λ t. if t then 0 else r.size + 1) between,
    ap (λ t. if t then next_line r.returned r.line b else r.first_line) between,
  );
}

pub IsClear-after_all : (r : Reading) (bytes : List ℕ) → IsClear r → IsClear (reading_after r bytes)
IsClear-after_all r [] h = h
IsClear-after_all r (b ∷ bytes) h =
    IsClear-after_all (after r b) bytes
    (IsClear-moved r b (read_byte r.separator r.state b) h (step_clears r.separator r.state b))

-- after a carriage return a byte is read as at the beginning
return_step : (return feed : Bool) (s : State × Action)
    → (if feed then (st.StartRecord, act.Skip)
    else if return || feed then (st.StartRecord, act.Skip) else s)
    ≡ (if return || feed then (st.StartRecord, act.Skip) else s)
return_step true true s = refl
return_step false true s = refl
return_step return false s = refl

pub between_step : (found : Option Separator) (s : State) → is_between s ≡ true → (b : ℕ)
    → read_byte found s b ≡ read_byte found st.StartRecord b
unfolding read_byte
between_step found st.StartRecord h b = refl
between_step found st.AfterCr h b = return_step (b == 13) (b == 10) _
between_step found st.StartField h b = absurd (cc h)
between_step found st.InField h b = absurd (cc h)
between_step found st.InQuoted h b = absurd (cc h)
between_step found st.AfterQuote h b = absurd (cc h)
between_step found st.InEscape h b = absurd (cc h)
between_step found st.InComment h b = absurd (cc h)

pub between_stray : (s : State) → is_between s ≡ true → (t : State) → is_stray s t ≡ false
between_stray st.StartRecord h t = refl
between_stray st.AfterCr h t = refl
between_stray st.StartField h t = absurd (cc h)
between_stray st.InField h t = absurd (cc h)
between_stray st.InQuoted h t = absurd (cc h)
between_stray st.AfterQuote h t = absurd (cc h)
between_stray st.InEscape h t = absurd (cc h)
between_stray st.InComment h t = absurd (cc h)

pub between_open : (s : State) → is_between s ≡ true → is_open s ≡ false
between_open st.StartRecord h = refl
between_open st.AfterCr h = refl
between_open st.StartField h = refl
between_open st.InField h = refl
between_open st.InQuoted h = absurd (cc h)
between_open st.AfterQuote h = refl
between_open st.InEscape h = refl
between_open st.InComment h = refl

pub between_clear : (s : State) → is_between s ≡ true → is_clear s ≡ true
between_clear st.StartRecord h = refl
between_clear st.AfterCr h = refl
between_clear st.StartField h = h
between_clear st.InField h = h
between_clear st.InQuoted h = h
between_clear st.AfterQuote h = h
between_clear st.InEscape h = h
between_clear st.InComment h = refl

-- ---- the records of bytes and of more after them

pick_after : (full stray ends : Bool) (f g : LettersFault) (r : Reading) (x : PlacedRecord)
    (xs all ys : List PlacedRecord) → (AreSound xs → all ≡ xs ++ ys)
    → AreSound (if full then faulty r f ∷ [] else if stray then faulty r g ∷ []
    else if ends then x ∷ xs else xs)
    → (if full then faulty r f ∷ [] else if stray then faulty r g ∷ []
    else if ends then x ∷ all else all)
    ≡ (if full then faulty r f ∷ [] else if stray then faulty r g ∷ []
    else if ends then x ∷ xs else xs) ++ ys
pick_after true stray ends f g r x xs all ys same sound = absurd (cc sound.0)
pick_after false true ends f g r x xs all ys same sound = absurd (cc sound.0)
pick_after false false true f g r x xs all ys same sound = ap (λ l. x ∷ l) (same sound.1)
pick_after false false false f g r x xs all ys same sound = same sound

pub between_last : (r : Reading) → is_between r.state ≡ true → last_record r ≡ []
between_last r between =
    rw (between_open r.state between) (rw (between_ends r.state ∙ ap not between) refl)

pub records_after : (r : Reading) (xs ys : List ℕ)
    → is_between (reading_after r xs).state ≡ true → AreSound (records_from r xs)
    → records_from r (xs ++ ys) ≡ records_from r xs ++ records_from (reading_after r xs) ys
records_after r [] ys between sound =
    sym (ap (λ l. l ++ records_from r ys) (between_last r between))
records_after r (b ∷ xs) ys between sound =
    let s = read_byte r.separator r.state b in
    pick_after (is_full r s.0) (is_refused r (is_stray r.state s.0)) (is_end s.1)
    (TooLong r.first_line)
    (TextAfterQuote r.first_line) r (ended r s.1) (records_from (after r b) xs)
    (records_from (after r b) (xs ++ ys)) (records_from (reading_after (after r b) xs) ys)
    (λ k. records_after (after r b) xs ys between k) sound
