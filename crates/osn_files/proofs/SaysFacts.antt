-- The line of each lawful edit says that edit, that of a publish a publish, and a head its version.
-- A source that the edit gives is one that may be given, and the version has it.
use Rattle.std.proofs.Common.{◌≡◌, ℕ, ◌^◌, ◌<◌, true, not, pos, List}
use Rattle.std.proofs.Common.{codes, Option, None, Some, Ok, refl, sym, subst}
use Rattle.std.proofs.Common.{arith}
use Rattle.std.proofs.lemmas.Bool.{lt-ltb}
use Rattle.serde_json.specs.Data.{string, number, unsigned}
use Rattle.serde_json.specs.Data.{no_members}
use Rattle.serde_json.specs.Read.{of_json}
use Rattle.serde_json.specs.Written.{compact_text, outline}
use Rattle.serde_json.proofs.Numbers.{number_of-decimal}
use Rattle.osn_days.specs.Rules.{newest_rules}
use Rattle.osn_territory.specs.declared.regime.Regime.{Regime}
use Rattle.osn_register.specs.declared.edit.Edit.{Edit}
use Rattle.osn_register.specs.declared.edit.Edit.TheVariants.{AddLand, AddChange, AlterChange}
use Rattle.osn_register.specs.declared.edit.Edit.TheVariants.{DropChange, AddException}
use Rattle.osn_register.specs.declared.edit.Edit.TheVariants.{DropException}
use Rattle.osn_register.specs.declared.limits.Limits.{Limits}
use Rattle.osn_register.specs.Code.{is_code, is_name}
use Rattle.osn_register.specs.Plain.{EntryModel, refusal}
use Rattle.osn_register.specs.Sources.{IsGiven, is_source}
use Rattle.osn_core.specs.Sequential.{HasLawfulSource}
use Rattle.osn_core.specs.declared.command.Command.TheVariants.{Stage, Publish}
use Rattle.osn_request.specs.EditRequest.{add_land_of, add_change_of, alter_change_of}
use Rattle.osn_request.specs.EditRequest.{drop_change_of, add_exception_of, drop_exception_of}
use Rattle.osn_request.specs.declared.version.Version.{Version}
use Rattle.osn_request.specs.declared.version.Version.TheVariants.{First, Second, Fourth}
use Rattle.osn_request.specs.Version.{newest_version, version_number}
use Rattle.osn_files.specs.Commands.{command_in}
use Rattle.osn_files.specs.JournalText.{change_data, edit_data, publish_data}
use Rattle.osn_files.specs.LoadedText.{HasEdit}
use Rattle.osn_files.specs.Version.{head_data, version_of}
use Rattle.osn_files.proofs.TextFacts.{Fits, Fits-number, Fit-none, Fit-member}
use Rattle.osn_files.proofs.EditFacts.{regime_of-words, Fits-word, Fits-calendar, Fits-style}
use Rattle.osn_files.proofs.EditFacts.{Fits-rule, Fits-code, Fits-name, Fit-source}
use Rattle.osn_files.proofs.CommandFacts.{IsLine, IsLine-fit, Says, lawful_in}
use Rattle.osn_files.proofs.CommandFacts.{next_test}
use Rattle.osn_files.proofs.CommandFacts.{un_not, within}
use Rattle.osn_files.proofs.VersionFacts.{edit_command}

pub Says-publish : (version : Version) → Says version publish_data Publish
Says-publish version =
    let h = Fit-member (codes "op") (string (codes "publish")) no_members 90 1 refl
    (Fits-word (codes "publish") refl (omega arith)) Fit-none in
    record { line = IsLine-fit _ _ h (omega arith) refl; command = refl }

-- the value of an edit's line is read back as that value
abbrev IsReadBack : Edit → Type 0
IsReadBack e = of_json (outline (edit_data e)) ≡ Some (edit_data e)

-- and by the newest rules as the edit
abbrev IsReadAs : Edit → Type 0
IsReadAs e = command_in newest_version (edit_data e) ≡ Ok (Stage e)

territory_back : (code name : List ℕ) (r : Regime) (source : Option (List ℕ))
    → IsReadBack (AddLand code name r source)
territory_back code name r None = refl
territory_back code name r (Some source) = refl

territory_read : (code name : List ℕ) (r : Regime) (source : Option (List ℕ)) → IsGiven source
    → IsReadAs (AddLand code name r source)
unfolding add_land_of
territory_read code name r None given =
    let d = edit_data (AddLand code name r None) in
    rw (regime_of-words d r refl refl refl) refl
territory_read code name r (Some source) given =
    let d = edit_data (AddLand code name r (Some source)) in
    let good : is_source source ≡ true = given in
    rw (regime_of-words d r refl refl refl, good) refl

Says-add_land : (code name : List ℕ) (r : Regime) (source : Option (List ℕ))
    → is_code code ≡ true → is_name name ≡ true → IsGiven source
    → Says newest_version (edit_data (AddLand code name r source))
    (Stage (AddLand code name r source))
Says-add_land code name r source c n given =
    let fit = Fit-member (codes "calendar") _ _ _ _ refl (Fits-calendar r.calendar)
    (Fit-member (codes "code") _ _ _ _ refl (Fits-code code c)
    (Fit-member (codes "name") _ _ _ _ refl (Fits-name name n)
    (Fit-member (codes "op") _ _ _ _ refl (Fits-word (codes "add_land") refl (omega arith))
    (Fit-member (codes "rule") _ _ _ _ refl (Fits-rule r.rule)
    (Fit-source source _ _ given
    (Fit-member (codes "style") _ _ _ _ refl (Fits-style r.style)
    Fit-none)))))) in
    record {
      line = IsLine-fit _ _ fit (omega arith) (territory_back code name r source);
      command = territory_read code name r source given;
    }

-- a change of a regime, by its op: its line, and the line is read back
change_back : (op code : List ℕ) (n : ℕ) (r : Regime) (source : Option (List ℕ)) → n < 10 ^ 8
    → of_json (outline (change_data op code (pos n) r source))
    ≡ Some (change_data op code (pos n) r source)
change_back op code n r None small = rw (number_of-decimal n (omega arith)) refl
change_back op code n r (Some source) small = rw (number_of-decimal n (omega arith)) refl

change_line : (op code : List ℕ) (n : ℕ) (r : Regime) (source : Option (List ℕ))
    → Fits (string op) 90 → is_code code ≡ true → n < 10 ^ 8 → IsGiven source
    → IsLine (change_data op code (pos n) r source)
change_line op code n r source o c small given =
    let fit = Fit-member (codes "calendar") _ _ _ _ refl (Fits-calendar r.calendar)
    (Fit-member (codes "code") _ _ _ _ refl (Fits-code code c)
    (Fit-member (codes "day") _ _ _ _ refl (Fits-number n small)
    (Fit-member (codes "op") _ _ _ _ refl o
    (Fit-member (codes "rule") _ _ _ _ refl (Fits-rule r.rule)
    (Fit-source source _ _ given
    (Fit-member (codes "style") _ _ _ _ refl (Fits-style r.style)
    Fit-none)))))) in
    IsLine-fit _ _ fit (omega arith) (change_back op code n r source small)

add_read : (code : List ℕ) (n : ℕ) (r : Regime) (source : Option (List ℕ)) → n < 10 ^ 8
    → IsGiven source → IsReadAs (AddChange code (pos n) r source)
unfolding add_change_of
add_read code n r None small given =
    let d = edit_data (AddChange code (pos n) r None) in
    let fits : n < 2 ^ 63 = omega arith in
    rw (lt-ltb n (2 ^ 63) fits, regime_of-words d r refl refl refl) refl
add_read code n r (Some source) small given =
    let d = edit_data (AddChange code (pos n) r (Some source)) in
    let fits : n < 2 ^ 63 = omega arith in
    let good : is_source source ≡ true = given in
    rw (lt-ltb n (2 ^ 63) fits, regime_of-words d r refl refl refl, good) refl

Says-add_change : (code : List ℕ) (n : ℕ) (r : Regime) (source : Option (List ℕ))
    → is_code code ≡ true → n < 10 ^ 8 → IsGiven source
    → Says newest_version (edit_data (AddChange code (pos n) r source))
    (Stage (AddChange code (pos n) r source))
Says-add_change code n r source c small given = record {
  line = change_line (codes "add_change") code n r source
      (Fits-word (codes "add_change") refl (omega arith)) c small given;
  command = add_read code n r source small given;
}

alter_read : (code : List ℕ) (n : ℕ) (r : Regime) (source : Option (List ℕ)) → n < 10 ^ 8
    → IsGiven source → IsReadAs (AlterChange code (pos n) r source)
unfolding alter_change_of
alter_read code n r None small given =
    let d = edit_data (AlterChange code (pos n) r None) in
    let fits : n < 2 ^ 63 = omega arith in
    rw (lt-ltb n (2 ^ 63) fits, regime_of-words d r refl refl refl) refl
alter_read code n r (Some source) small given =
    let d = edit_data (AlterChange code (pos n) r (Some source)) in
    let fits : n < 2 ^ 63 = omega arith in
    let good : is_source source ≡ true = given in
    rw (lt-ltb n (2 ^ 63) fits, regime_of-words d r refl refl refl, good) refl

Says-alter_change : (code : List ℕ) (n : ℕ) (r : Regime) (source : Option (List ℕ))
    → is_code code ≡ true → n < 10 ^ 8 → IsGiven source
    → Says newest_version (edit_data (AlterChange code (pos n) r source))
    (Stage (AlterChange code (pos n) r source))
Says-alter_change code n r source c small given = record {
  line = change_line (codes "alter_change") code n r source
      (Fits-word (codes "alter_change") refl (omega arith)) c small given;
  command = alter_read code n r source small given;
}

Says-drop_change : (code : List ℕ) (n : ℕ) → is_code code ≡ true → n < 10 ^ 8
    → Says newest_version (edit_data (DropChange code (pos n))) (Stage (DropChange code (pos n)))
unfolding drop_change_of
Says-drop_change code n c small =
    let fits : n < 2 ^ 63 = omega arith in
    let fit = Fit-member (codes "code") _ _ _ _ refl (Fits-code code c)
    (Fit-member (codes "day") _ _ _ _ refl (Fits-number n small)
    (Fit-member (codes "op") _ _ _ _ refl (Fits-word (codes "drop_change") refl (omega arith))
    Fit-none)) in
    record {
      line = IsLine-fit _ _ fit (omega arith) (rw (number_of-decimal n (omega arith)) refl);
      command = rw (lt-ltb n (2 ^ 63) fits) refl;
    }

exception_back : (code : List ℕ) (y n : ℕ) (source : Option (List ℕ)) → y < 10 ^ 8 → n < 10 ^ 8
    → IsReadBack (AddException code (pos y) (pos n) source)
exception_back code y n None early small =
    rw (number_of-decimal n (omega arith), number_of-decimal y (omega arith)) refl
exception_back code y n (Some source) early small =
    rw (number_of-decimal n (omega arith), number_of-decimal y (omega arith)) refl

exception_read : (code : List ℕ) (y n : ℕ) (source : Option (List ℕ)) → y < 10 ^ 8 → n < 10 ^ 8
    → IsGiven source → IsReadAs (AddException code (pos y) (pos n) source)
unfolding add_exception_of
exception_read code y n None early small given =
    let fits : n < 2 ^ 63 = omega arith in
    let year_fits : y < 2 ^ 63 = omega arith in
    rw (lt-ltb n (2 ^ 63) fits, lt-ltb y (2 ^ 63) year_fits) refl
exception_read code y n (Some source) early small given =
    let fits : n < 2 ^ 63 = omega arith in
    let year_fits : y < 2 ^ 63 = omega arith in
    let good : is_source source ≡ true = given in
    rw (lt-ltb n (2 ^ 63) fits, lt-ltb y (2 ^ 63) year_fits, good) refl

Says-add_exception : (code : List ℕ) (y n : ℕ) (source : Option (List ℕ)) → is_code code ≡ true
    → y < 10 ^ 8 → n < 10 ^ 8 → IsGiven source
    → Says newest_version (edit_data (AddException code (pos y) (pos n) source))
    (Stage (AddException code (pos y) (pos n) source))
Says-add_exception code y n source c early small given =
    let fit = Fit-member (codes "code") _ _ _ _ refl (Fits-code code c)
    (Fit-member (codes "day") _ _ _ _ refl (Fits-number n small)
    (Fit-member (codes "op") _ _ _ _ refl (Fits-word (codes "add_exception") refl (omega arith))
    (Fit-source source _ _ given
    (Fit-member (codes "year") _ _ _ _ refl (Fits-number y early)
    Fit-none)))) in
    record {
      line = IsLine-fit _ _ fit (omega arith) (exception_back code y n source early small);
      command = exception_read code y n source early small given;
    }

Says-drop_exception : (code : List ℕ) (y : ℕ) → is_code code ≡ true → y < 10 ^ 8
    → Says newest_version (edit_data (DropException code (pos y)))
    (Stage (DropException code (pos y)))
unfolding drop_exception_of
Says-drop_exception code y c early =
    let year_fits : y < 2 ^ 63 = omega arith in
    let fit = Fit-member (codes "code") _ _ _ _ refl (Fits-code code c)
    (Fit-member (codes "op") _ _ _ _ refl (Fits-word (codes "drop_exception") refl (omega arith))
    (Fit-member (codes "year") _ _ _ _ refl (Fits-number y early)
    Fit-none)) in
    record {
      line = IsLine-fit _ _ fit (omega arith) (rw (number_of-decimal y (omega arith)) refl);
      command = rw (lt-ltb y (2 ^ 63) year_fits) refl;
    }

-- an edit that says itself on a line
abbrev SaysItself : Edit → Type 0
SaysItself e = Says newest_version (edit_data e) (Stage e)

-- the line of a lawful edit says the edit by the newest rules
says_newest : (limits : Limits) (territories : List EntryModel) (e : Edit) → HasLawfulSource e
    → refusal newest_rules limits territories e ≡ None → SaysItself e
says_newest limits territories (AddLand code name r source) given h =
    let code_good = next_test (not (is_code code)) _ _ h in
    let name_good = next_test (not (is_name name)) _ _ code_good.1 in
    Says-add_land code name r source (un_not _ code_good.0) (un_not _ name_good.0) given
says_newest limits territories (AddChange code day r source) given h =
    let it = lawful_in territories code _ h in
    let on = within newest_rules.high day (next_test _ _ _ it.lawful).0 in
    subst (λ z. SaysItself (AddChange code z r source)) (sym on.is)
    (Says-add_change code on.number r source it.code_is (omega (arith, on.low)) given)
says_newest limits territories (AlterChange code day r source) given h =
    let it = lawful_in territories code _ h in
    let on = within newest_rules.high day (next_test _ _ _ it.lawful).0 in
    subst (λ z. SaysItself (AlterChange code z r source)) (sym on.is)
    (Says-alter_change code on.number r source it.code_is (omega (arith, on.low)) given)
says_newest limits territories (DropChange code day) given h =
    let it = lawful_in territories code _ h in
    let on = within newest_rules.high day (next_test _ _ _ it.lawful).0 in
    subst (λ z. SaysItself (DropChange code z)) (sym on.is)
    (Says-drop_change code on.number it.code_is (omega (arith, on.low)))
says_newest limits territories (AddException code year day source) given h =
    let it = lawful_in territories code _ h in
    let first = next_test _ _ _ it.lawful in
    let on = within newest_rules.high day first.0 in
    let in_year = within newest_rules.last_year year (next_test _ _ _ first.1).0 in
    subst (λ z. SaysItself (AddException code z day source)) (sym in_year.is)
    (subst (λ z. SaysItself (AddException code (pos in_year.number) z source)) (sym on.is)
    (Says-add_exception code in_year.number on.number source it.code_is
    (omega (arith, in_year.low)) (omega (arith, on.low)) given))
says_newest limits territories (DropException code year) given h =
    let it = lawful_in territories code _ h in
    let in_year = within newest_rules.last_year year (next_test _ _ _ it.lawful).0 in
    subst (λ z. SaysItself (DropException code z)) (sym in_year.is)
    (Says-drop_exception code in_year.number it.code_is (omega (arith, in_year.low)))

-- and by those of each version that has the edit
pub Says-lawful : (version : Version) (limits : Limits) (territories : List EntryModel) (e : Edit)
    → HasEdit version e → HasLawfulSource e → refusal newest_rules limits territories e ≡ None
    → Says version (edit_data e) (Stage e)
Says-lawful version limits territories e has given h =
    let says = says_newest limits territories e given h in
    record { line = says.line; command = edit_command version (edit_data e) e has says.command }

small_number : (version : Version) → version_number version < 10 ^ 8
small_number First = omega arith
small_number Second = omega arith
small_number Fourth = omega arith

-- a head is a line, and says its version
pub IsLine-head : (version : Version) → IsLine (head_data version)
IsLine-head version =
    let n = version_number version in
    let small : n < 10 ^ 8 = small_number version in
    let h = Fit-member (codes "journal") (number (unsigned n)) no_members 8 1 refl
    (Fits-number n small) Fit-none in
    IsLine-fit _ _ h (omega arith) (rw (number_of-decimal n (omega arith)) refl)

pub version_of-head : (version : Version)
    → version_of (compact_text (head_data version)) ≡ Ok version
version_of-head First = rw (IsLine-head First).object refl
version_of-head Second = rw (IsLine-head Second).object refl
version_of-head Fourth = rw (IsLine-head Fourth).object refl
