-- After a record the separator of a text is found.
use Rattle.std.proofs.Common.{◌≡◌, ℕ, Bool, true, false, List, [], ◌∷◌, Option, Some, None, refl}
use Rattle.std.proofs.Common.{if◌then◌else◌}
use Rattle.csv.specs.declared.parser.Action.{Action}
use Rattle.csv.specs.declared.parser.Action.TheVariants as act
use Rattle.csv.specs.declared.parser.State.{State}
use Rattle.csv.specs.Machine.{is_end}
use Rattle.osn_letters.specs.declared.fault.LettersFault.{LettersFault}
use Rattle.osn_letters.specs.declared.fault.LettersFault.TheVariants.{TooLong, TextAfterQuote}
use Rattle.osn_letters.specs.declared.separator.Separator.{Separator}
use Rattle.osn_letters.specs.Law.{AreSound}
use Rattle.osn_letters.specs.Records.{Reading, PlacedRecord, after, ended, faulty, is_between}
use Rattle.osn_letters.specs.Records.{is_full, is_refused, is_stray, moved, read_byte}
use Rattle.osn_letters.specs.Records.{reading_after}
use Rattle.osn_letters.specs.Records.{records_from}
use Rattle.osn_letters.specs.Separators.{or_comma, separator_after}
use Rattle.osn_letters.proofs.ClearFacts.{between_last}
use Rattle.osn_letters.proofs.SeparatorFacts.{found_stays}

-- the separator of a reading was found
abbrev pub IsFound : Reading → Type 0
IsFound r = (x : Separator) × (r.separator ≡ Some x)

ended_found : (found : Option Separator) (b : ℕ)
    → separator_after found b act.EndRecord ≡ Some (or_comma found)
ended_found None b = refl
ended_found (Some x) b = refl

abbrev picked : Bool → Bool → Bool → LettersFault → LettersFault → Reading → Action
    → List PlacedRecord → List PlacedRecord
picked full stray ends f g r a more =
    if full then faulty r f ∷ []
    else if stray then faulty r g ∷ []
    else if ends then ended r a ∷ more
    else more

found_by : (r : Reading) (b : ℕ) (bytes : List ℕ) (s : State) (a : Action) (full stray : Bool)
    (f g : LettersFault) (more : List PlacedRecord)
    → (AreSound more → (more ≡ [] → ⊥) → IsFound (reading_after (moved r b (s, a)) bytes))
    → AreSound (picked full stray (is_end a) f g r a more)
    → (picked full stray (is_end a) f g r a more ≡ [] → ⊥)
    → IsFound (reading_after (moved r b (s, a)) bytes)
found_by r b bytes s a true stray f g more later sound some = absurd (cc sound.0)
found_by r b bytes s a false true f g more later sound some = absurd (cc sound.0)
found_by r b bytes s act.EndRecord false false f g more later sound some = (
  or_comma r.separator,
  found_stays (moved r b (s, act.EndRecord)) bytes (or_comma r.separator)
      (ended_found r.separator b),
)
found_by r b bytes s act.Skip false false f g more later sound some = later sound some
found_by r b bytes s act.Copy false false f g more later sound some = later sound some
found_by r b bytes s act.EndField false false f g more later sound some = later sound some

pub record_found : (r : Reading) (bytes : List ℕ)
    → is_between (reading_after r bytes).state ≡ true → AreSound (records_from r bytes)
    → (records_from r bytes ≡ [] → ⊥) → IsFound (reading_after r bytes)
record_found r [] between sound some = absurd (some (between_last r between))
record_found r (b ∷ bytes) between sound some =
    let s = read_byte r.separator r.state b in
    found_by r b bytes s.0 s.1 (is_full r s.0) (is_refused r (is_stray r.state s.0))
    (TooLong r.first_line) (TextAfterQuote r.first_line) (records_from (after r b) bytes)
    (record_found (after r b) bytes between) sound some
