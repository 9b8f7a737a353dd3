-- What it means that a text says territories: this project's profile.
use Rattle.std.specs.Prelude.{◌≡◌, ℕ, ◌<◌, ◌^◌, List, Some, Ok}
use Rattle.osn_days.specs.Rules.{newest_rules}
use Rattle.osn_register.specs.declared.limits.Limits.{Limits}
use Rattle.osn_register.specs.Plain.{EntryModel, RegisterModel, IsWellFormed, entry_of}
use Rattle.osn_register.specs.SameEntry.{AreSameEntry}
use Rattle.osn_register_text.specs.Text.{text_of_table}
use Rattle.osn_register_text.specs.WrittenText.{if_there}

-- the text is read, under the limits, as of this edition and as these territories with their
-- sources. Those of a text are in the order of their codes, so each code has the same territory in
-- both, or in neither
pub record SaysTerritories (limits : Limits) (text : List ℕ) (edition : ℕ)
    (entries : List EntryModel)
    : Type 0 where
  pub territories : List EntryModel
  pub reads : text_of_table limits text ≡ Some (Ok (Some edition, territories))
  pub same : (code : List ℕ) → AreSameEntry (entry_of code territories) (entry_of code entries)

-- the text is read so under the register's limits, if TOML has a number for the edition
abbrev pub SaysRegister : RegisterModel → List ℕ → ℕ → List EntryModel → Type 0
SaysRegister r text edition entries =
    edition < 2 ^ 63 → IsWellFormed newest_rules r → SaysTerritories r.limits text edition entries

-- as its territory of the code alone, or as no territory if the code is unknown
abbrev pub SaysTerritory : RegisterModel → List ℕ → ℕ → List ℕ → Type 0
SaysTerritory r text edition code =
    SaysRegister r text edition (if_there (entry_of code r.territories))
