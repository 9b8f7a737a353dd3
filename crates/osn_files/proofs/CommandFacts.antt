-- A lawful edit, a publish and a head are read back from their lines.
use Rattle.std.proofs.Common.{◌≡◌, ℕ, ◌<◌, ◌≤◌, Bool, true, false, not, cond}
use Rattle.std.proofs.Common.{ℤ}
use Rattle.std.proofs.Common.{pos, negsuc, List, ◌∷◌, ◌++◌, Option, Some, None}
use Rattle.std.proofs.Common.{option_map, is_none, is_some, Ok, refl, sym, ap}
use Rattle.std.proofs.Common.{leb-true, IsUtf8}
use Rattle.std.proofs.lemmas.Bool.{and_parts, false≢true}
use Rattle.serde_json.specs.Data.{Data, object, Members}
use Rattle.serde_json.specs.Read.{of_json}
use Rattle.serde_json.specs.Written.{compact_text, outline}
use Rattle.osn_territory.specs.Territory.{TerritoryModel}
use Rattle.osn_lines.specs.Lines.{lines}
use Rattle.osn_register.specs.declared.refusal.Refusal.{Refusal}
use Rattle.osn_register.specs.Code.{is_code}
use Rattle.osn_register.specs.Plain as plain
use Rattle.osn_register.specs.Plain.{EntryModel}
use Rattle.osn_register.specs.Refusal.{or_else}
use Rattle.osn_core.specs.declared.command.Command.{Command}
use Rattle.osn_request.specs.declared.version.Version.{Version}
use Rattle.osn_request.specs.Request.{object_of}
use Rattle.osn_files.specs.Commands.{command_in}
use Rattle.osn_files.specs.JournalText.{line_text}
use Rattle.osn_files.proofs.TextFacts.{Fit}
use Rattle.osn_files.proofs.TextFacts.{object_of-line, lines-line, utf8-line}

-- a value on a line of its own is the first line, and the line's object is the value
pub record IsLine (d : Data) : Type 0 where
  pub first : (more : List ℕ) → lines (line_text d ++ more) ≡ compact_text d ∷ lines more
  pub object : object_of (compact_text d) ≡ Ok d
  pub utf8 : IsUtf8 (line_text d)

pub IsLine-fit : (ms : Members) (n : ℕ) → Fit ms n → n < 65536
    → of_json (outline (object ms)) ≡ Some (object ms) → IsLine (object ms)
IsLine-fit ms n h room back = record {
  first = λ more. lines-line ms n more h;
  object = object_of-line ms n h room back;
  utf8 = utf8-line ms n h;
}

-- a value on a line of its own, which says this command by the rules of a version
pub record Says (version : Version) (d : Data) (c : Command) : Type 0 where
  pub line : IsLine d
  pub command : command_in version d ≡ Ok c

-- the first test does not apply, and neither do those after it
pub next_test : (b : Bool) (f : Refusal) (r : Option Refusal) → cond b (Some f) r ≡ None
    → (b ≡ false) × (r ≡ None)
next_test true f r h = absurd (false≢true (sym (ap is_some h)))
next_test false f r h = (refl, h)

pub un_not : (b : Bool) → not b ≡ false → b ≡ true
un_not true h = refl
un_not false h = absurd (cc)

pub both_none : (a b : Option Refusal) → or_else a b ≡ None → (a ≡ None) × (b ≡ None)
both_none None b h = (refl, h)
both_none (Some f) b h = absurd (false≢true (sym (ap is_some h)))

-- a lawful edit of a territory has a code, and the territory doesn't refuse it
pub record IsLawfulIn (code : List ℕ) (refused : TerritoryModel → Option Refusal) : Type 0 where
  pub code_is : is_code code ≡ true
  pub territory : TerritoryModel
  pub lawful : refused territory ≡ None

found_lawful : (code : List ℕ) (o : Option EntryModel) (refused : TerritoryModel → Option Refusal)
    → is_code code ≡ true → is_none o ≡ false
    → plain.inside refused (option_map (λ l. l.territory) o) ≡ None → IsLawfulIn code refused
found_lawful code None refused c h e = absurd (false≢true (sym h))
found_lawful code (Some l) refused c h e = record {
  code_is = c;
  territory = l.territory;
  lawful = e;
}

pub lawful_in : (territories : List EntryModel) (code : List ℕ)
    (refused : TerritoryModel → Option Refusal)
    → plain.refusal_in territories code refused ≡ None → IsLawfulIn code refused
lawful_in territories code refused h =
    let parts = both_none (plain.code_refusal territories code) _ h in
    let first = next_test (not (is_code code)) _ _ parts.0 in
    let second = next_test (is_none (plain.entry_of code territories)) _ _ first.1 in
    found_lawful code (plain.entry_of code territories) refused (un_not _ first.0) second.0 parts.1

-- a number that is not outside a range from 1 on
pub record IsWithin (high : ℕ) (z : ℤ) : Type 0 where
  pub number : ℕ
  pub is : z ≡ pos number
  pub low : number ≤ high

pub within : (high : ℕ) (z : ℤ) → not (plain.is_between (pos 1) (pos high) z) ≡ false
    → IsWithin high z
within high (pos n) h =
    let p = and_parts _ _ (un_not _ h) in
    record { number = n; is = refl; low = leb-true n high p.1 }
within high (negsuc n) h = absurd (false≢true (un_not _ h))
