-- Edits that are lawful in turn, and what an edit is of.
use Rattle.std.specs.Prelude.{ℕ, ◌≡◌, List, [], ◌∷◌, Option, None}
use Rattle.osn_days.specs.Rules.{Rules}
use Rattle.osn_register.specs.declared.edit.Edit.{Edit}
use Rattle.osn_register.specs.declared.edit.Edit.TheVariants.{AddLand, AddChange, AlterChange}
use Rattle.osn_register.specs.declared.edit.Edit.TheVariants.{DropChange, AddException}
use Rattle.osn_register.specs.declared.edit.Edit.TheVariants.{DropException}
use Rattle.osn_register.specs.declared.limits.Limits.{Limits}
use Rattle.osn_register.specs.Plain.{EntryModel, refusal, effect}

-- the code of the territory that an edit is of
abbrev pub code_of : Edit → List ℕ
code_of (AddLand code name regime source) = code
code_of (AddChange code day regime source) = code
code_of (AlterChange code day regime source) = code
code_of (DropChange code day) = code
code_of (AddException code year day source) = code
code_of (DropException code year) = code

-- the source that an edit gives, if it gives one
abbrev pub source_given : Edit → Option (List ℕ)
source_given (AddLand code name regime source) = source
source_given (AddChange code day regime source) = source
source_given (AlterChange code day regime source) = source
source_given (DropChange code day) = None
source_given (AddException code year day source) = source
source_given (DropException code year) = None

-- each edit is lawful at its place, from these territories on
abbrev pub AreLawful : Rules → Limits → List EntryModel → List Edit → Type 0
AreLawful p limits territories [] = Unit {0}
AreLawful p limits territories (e ∷ es) =
    (refusal p limits territories e ≡ None) × AreLawful p limits (effect territories e) es
