-- A run of bytes that only join the current field is read in one step.
use Rattle.std.proofs.Common.{◌≡◌, ◌∙◌, ◌≤◌, ℕ, suc, ◌+◌, ◌-◌, ◌==◌, Bool, true, false, not, ◌&&◌}
use Rattle.std.proofs.Common.{if◌then◌else◌, List, [], ◌∷◌, ◌++◌, length, Some, refl, sym, ap}
use Rattle.std.proofs.Common.{arith}
use Rattle.std.proofs.Common.{append_assoc, append-nil, nat_lt, ◌||◌}
use Rattle.std.specs.List.{list_all}
use Rattle.csv.specs.declared.parser.State.{State}
use Rattle.csv.specs.declared.parser.State.TheVariants as st
use Rattle.csv.specs.declared.parser.Action.{Action}
use Rattle.csv.specs.declared.parser.Action.TheVariants as act
use Rattle.osn_letters.specs.declared.separator.Separator.{Separator}
use Rattle.osn_letters.specs.Records.{Reading, PlacedRecord, is_between, is_stray, most_bytes}
use Rattle.osn_letters.specs.Records.{moved, read_byte, records_by, records_from}
use Rattle.osn_letters.specs.Runs.{EndsRun, JoinField, joined, joins}
use Rattle.osn_letters.specs.Separators.{separator_after, separator_byte}

-- ---- which bytes join the field

abbrev field_step : Bool → Bool → Bool → State × Action
field_step comma return feed =
    if comma then (st.StartField, act.EndField)
    else if return || feed then (if return then st.AfterCr else st.StartRecord, act.EndRecord)
    else (st.InField, act.Copy)

field_stays : (end return feed : Bool) → not end && (not return && not feed) ≡ true
    → field_step end return feed ≡ (st.InField, act.Copy)
field_stays true return feed h = absurd (cc h)
field_stays false true feed h = absurd (cc h)
field_stays false false true h = absurd (cc h)
field_stays false false false h = refl

abbrev quoted_step : Bool → State × Action
quoted_step quote = if quote then (st.AfterQuote, act.Skip) else (st.InQuoted, act.Copy)

quoted_stays : (end rest : Bool) → not end && rest ≡ true
    → quoted_step end ≡ (st.InQuoted, act.Copy)
quoted_stays true rest h = absurd (cc h)
quoted_stays false rest h = refl

pub ends_in_field : (x : Separator) → EndsRun x st.InField (separator_byte x)
unfolding read_byte
ends_in_field x = record {
  between = refl;
  stray = refl;
  stays = λ b h. field_stays (b == separator_byte x) (b == 13) (b == 10) h;
}

pub ends_in_quotes : (x : Separator) → EndsRun x st.InQuoted 34
unfolding read_byte
ends_in_quotes x = record {
  between = refl;
  stray = refl;
  stays = λ b h. quoted_stays (b == 34) (not (b == 13) && not (b == 10)) h;
}

-- ---- one byte

parts : (end return feed : Bool) → not end && (not return && not feed) ≡ true
    → (return ≡ false) × (feed ≡ false)
parts true return feed h = absurd (cc h)
parts false true feed h = absurd (cc h)
parts false false true h = absurd (cc h)
parts false false false h = (refl, refl)

both : (x y : Bool) → x && y ≡ true → (x ≡ true) × (y ≡ true)
both true true h = (refl, refl)
both true false h = absurd (cc h)
both false y h = absurd (cc h)

or_none : (t : Bool) → (t || false) ≡ t
or_none true = refl
or_none false = refl

moved_is : (r : Reading) (b : ℕ) → is_between r.state ≡ false → is_stray r.state r.state ≡ false
    → separator_after r.separator b act.Copy ≡ r.separator → r.returned ≡ false
    → (b == 13) ≡ false → (b == 10) ≡ false
    → moved r b (r.state, act.Copy) ≡ joined r (b ∷ [])
moved_is r b between stray found returned return feed =
    simp (between, stray, found, returned, return, feed, or_none) refl

passed_on : (r : Reading) → is_between r.state ≡ false → is_stray r.state r.state ≡ false
    → nat_lt r.size (most_bytes r.keeps_going) ≡ true → (more : List PlacedRecord)
    → records_by r (r.state, act.Copy) more ≡ more
passed_on r between stray room more = simp (between, stray, room) refl

-- a byte that only joins the current field
one_joins : (r : Reading) (x : Separator) (end b : ℕ) → r.separator ≡ Some x
    → r.returned ≡ false → EndsRun x r.state end → joins end b ≡ true
    → nat_lt r.size (most_bytes r.keeps_going) ≡ true → (bytes : List ℕ)
    → records_from r (b ∷ bytes) ≡ records_from (joined r (b ∷ [])) bytes
one_joins r x end b found returned ends h room bytes =
    let lines = parts (b == end) (b == 13) (b == 10) h in
    let read : read_byte r.separator r.state b ≡ (r.state, act.Copy) =
    ap (λ f. read_byte f r.state b) found ∙ ends.stays b h in
    let same : moved r b (r.state, act.Copy) ≡ joined r (b ∷ []) =
    moved_is r b ends.between ends.stray
    (ap (λ f. separator_after f b act.Copy) found ∙ sym found) returned lines.0 lines.1 in
    ap (λ s. records_by r s (records_from (moved r b s) bytes)) read
    ∙ (passed_on r ends.between ends.stray room
    (records_from (moved r b (r.state, act.Copy)) bytes)
    ∙ ap (λ q. records_from q bytes) same)

-- ---- all of them

room_for : (most size n : ℕ) → suc n ≤ most - size → nat_lt size most ≡ true
room_for most size n room = grind (arith, room)

joined_none : (r : Reading) → joined r [] ≡ r
joined_none r =
    ap (λ f. record r { field = f; size = r.size + 0 }) (append-nil r.field)
    ∙ ap (λ n. record r { size = n }) (omega arith)

joined_then : (r : Reading) (b : ℕ) (run : List ℕ)
    → joined (joined r (b ∷ [])) run ≡ joined r (b ∷ run)
joined_then r b run =
    ap (λ f. record r { field = f; size = (r.size + length (b ∷ [])) + length run })
    (append_assoc r.field (b ∷ []) run)
    ∙ ap (λ n. record r { field = r.field ++ b ∷ run; size = n }) (omega arith)

pub none_joins : (r : Reading) → JoinField r []
none_joins r more = ap (λ q. records_from q more) (sym (joined_none r))

-- all of them, if the record has room for them
pub run_joins : (run : List ℕ) (r : Reading) (x : Separator) (end : ℕ) → r.separator ≡ Some x
    → r.returned ≡ false → EndsRun x r.state end → list_all (joins end) run ≡ true
    → length run ≤ most_bytes r.keeps_going - r.size → JoinField r run
run_joins [] r x end found returned ends h room = none_joins r
run_joins (b ∷ run) r x end found returned ends h room =
    λ more.
    let pair = both (joins end b) (list_all (joins end) run) h in
    one_joins r x end b found returned ends pair.0
    (room_for (most_bytes r.keeps_going) r.size (length run) room) (run ++ more)
    ∙ (run_joins run (joined r (b ∷ [])) x end found returned ends pair.1 (omega (arith, room))
    more
    ∙ ap (λ q. records_from q more) (joined_then r b run))
