-- The fields of a row, in the words of the calls that read them.
use Rattle.std.proofs.Common.{◌≡◌, ◌∙◌, ℕ, Bool, true, false, if◌then◌else◌, List, [], ◌∷◌, ◌++◌}
use Rattle.std.proofs.Common.{Option, Some, None, option_map, Result, Ok, Err, MatchResult, Bor}
use Rattle.std.proofs.Common.{refl, ap, append_assoc, IsUtf8, OnOk}
use Rattle.std.proofs.lemmas.Str.{IsUtf8-from_is_utf8, is_utf8-from_IsUtf8}
use Rattle.std.specs.Result.{is_ok, result_ok}
use Rattle.std.specs.Str.{is_utf8}
use Rattle.osn_days.specs.declared.weekday.Weekday.{Weekday}
use Rattle.osn_days.specs.Rules.{Rules}
use Rattle.osn_written.specs.declared.any_date.AnyDate.{AnyDate}
use Rattle.osn_territory.specs.declared.dating.DatedDay.{DatedDay}
use Rattle.osn_territory.specs.Territory.{TerritoryModel}
use Rattle.osn_written.specs.declared.finding.NoDay.{NoDay}
use Rattle.osn_written.specs.declared.finding.NoDay.TheVariants.{Absent}
use Rattle.osn_written.specs.declared.written_date.WrittenDate.{WrittenDate}
use Rattle.osn_written.specs.Absence.{absence}
use Rattle.osn_written.specs.Meaning.{dated_by, meaning}
use Rattle.osn_letters.specs.declared.remark.Remark.{Remark}
use Rattle.osn_letters.specs.Fields.{fields_of_days, fields_of_meaning, fields_of_one_day}
use Rattle.osn_letters.specs.Remarks.{remarks_on_days}

no_text : (bytes : List ℕ) (t : Bool) → is_utf8 bytes ≡ t → (IsUtf8 bytes → ⊥)
    → None ≡ (if t then Some bytes else None)
no_text bytes true is none = absurd (none (IsUtf8-from_is_utf8 bytes is))
no_text bytes false is none = refl

-- the text that bytes are, if they are UTF-8
pub text_is : {E : Type 0} (More : E → Type 0) (bytes : List ℕ) (r : Result (Bor (List ℕ)) E)
    → MatchResult r (λ s. (s.now ≡ bytes) × IsUtf8 bytes) (λ e. (IsUtf8 bytes → ⊥) × More e)
    → option_map (λ s. s.now) (result_ok r) ≡ (if is_utf8 bytes then Some bytes else None)
text_is More bytes (Ok s) h = rw (is_utf8-from_IsUtf8 bytes h.1) (ap Some h.0)
text_is More bytes (Err e) h = no_text bytes (is_utf8 bytes) refl h.0

-- the fields of what a date means are those of its days, if there are any
some_meant : (edition : ℕ) (w : AnyDate) (day : WrittenDate) (given : Option Weekday)
    (reason : NoDay) (beside : List (Bool × Remark)) (days : List DatedDay) → (days ≡ [] → ⊥)
    → fields_of_days edition w days (remarks_on_days day given days ++ beside)
    ≡ fields_of_meaning edition w day given reason beside days
some_meant edition w day given reason beside [] some = absurd (some refl)
some_meant edition w day given reason beside (first ∷ rest) some = refl

-- the fields of days that are those of a date
pub meant_are : (p : Rules) (edition : ℕ) (own t : TerritoryModel) (w : AnyDate)
    (day : WrittenDate) (given : Option Weekday) (beside on_days : List (Bool × Remark))
    (days row_days field_days : List DatedDay) → days ≡ dated_by p own (meaning p t day given)
    → (days ≡ [] → ⊥)
    → row_days ≡ days → field_days ≡ days → on_days ≡ remarks_on_days day given row_days
    → fields_of_days edition w field_days (on_days ++ beside)
    ≡ fields_of_one_day p edition own t w day given beside
meant_are p edition own t w day given beside on_days days row_days field_days days_are some
    row_days_are field_days_are on_are =
    let reason = Absent (absence p t day) in
    ap (λ ds. fields_of_days edition w ds (on_days ++ beside)) field_days_are
    ∙ (ap (λ r. fields_of_days edition w days (r ++ beside))
    (on_are ∙ ap (remarks_on_days day given) row_days_are)
    ∙ (some_meant edition w day given reason beside days some
    ∙ ap (fields_of_meaning edition w day given reason beside) days_are))

-- the fields that a row is given, part by part
pub fields_pushed : (row one two three four five a b : List (List ℕ)) (x y z : List ℕ)
    → one ≡ row ++ a → two ≡ one ++ b → three ≡ two ++ x ∷ [] → four ≡ three ++ y ∷ []
    → five ≡ four ++ z ∷ [] → five ≡ row ++ (a ++ (b ++ (x ∷ y ∷ z ∷ [])))
fields_pushed row one two three four five a b x y z e f g h k =
    rw (k, h, g, f, e) (simp append_assoc refl)

-- what was appended, if there was memory for it
pub appended : {T E : Type 0} (r : Result T E) (new text old : List ℕ)
    → new ≡ (if is_ok r then text else old) → OnOk r (new ≡ text)
appended (Ok x) new text old h = h
appended (Err e) new text old h = tt
