-- What the first version guarantees is kept: a journal of that version has the same editions under
-- the newest rules. This project's profile.
use Rattle.std.specs.Prelude.{◌≡◌, ℕ, List, [], ◌∷◌, ◌++◌, take, Ok}
use Rattle.osn_days.specs.Rules.{first_rules, newest_rules}
use Rattle.osn_register.specs.declared.edit.Edit.{Edit}
use Rattle.osn_register.specs.declared.limits.Limits.{Limits}
use Rattle.osn_register.specs.Plain.{register_after}
use Rattle.osn_core.specs.Sequential.{ObjectState, joined}
use Rattle.osn_request.specs.declared.version.Version.TheVariants.{First}
use Rattle.osn_files.specs.Journal.{load}
use Rattle.osn_files.specs.Version.{version_of}

-- the first line is a head that says the first version
abbrev pub IsOfFirstVersion : List (List ℕ) → Type 0
IsOfFirstVersion [] = ⊥
IsOfFirstVersion (head ∷ rest) = version_of head ≡ Ok First

-- edits in turn make the same register under the newest rules as under the first
abbrev pub IsSameRegister : Limits → List Edit → Type 0
IsSameRegister limits es =
    register_after first_rules limits es ≡ register_after newest_rules limits es

-- Lines that say the first version, and that the first rules load as an object, are loaded as the
-- same object by the newest rules. Its batches and its pending edits are the same ones. The
-- register of each of its editions, which is that of its first batches, is the same one under both
-- rules. The register of all its edits, the pending ones included, is the same one too.
unfoldable pub KeepsEditions : Limits → List (List ℕ) → Type 0
KeepsEditions limits lines =
    IsOfFirstVersion lines → (object : ObjectState) → load first_rules limits lines ≡ Ok object
    → (load newest_rules limits lines ≡ Ok object)
    × ((edition : ℕ) → IsSameRegister limits (joined (take edition object.batches)))
    × IsSameRegister limits (joined object.batches ++ object.pending)
