-- In which order a plan has its edits: territory by territory. This project's profile.
use Rattle.std.specs.Prelude.{ℕ, ◌≡◌, ◌<◌, ◌⊎◌, List, [], ◌∷◌, ◌++◌, unsigned_abs}
use Rattle.osn_register.specs.declared.edit.Edit.{Edit}
use Rattle.osn_register.specs.declared.edit.Edit.TheVariants.{AddLand, AddChange, AlterChange}
use Rattle.osn_register.specs.declared.edit.Edit.TheVariants.{DropChange, AddException}
use Rattle.osn_register.specs.declared.edit.Edit.TheVariants.{DropException}
use Rattle.osn_register.specs.Lawful.{code_of}
use Rattle.osn_register.specs.Plain.{EntryModel}

-- At first a territory is added. Then changes of regime are dropped, and after these others are
-- added or altered. Then listed Easters are dropped, and after these others are listed.
abbrev pub turn_of : Edit → ℕ
turn_of (AddLand code name regime source) = 1
turn_of (DropChange code day) = 2
turn_of (AddChange code day regime source) = 3
turn_of (AlterChange code day regime source) = 3
turn_of (DropException code year) = 4
turn_of (AddException code year day source) = 5

-- the first day of a regime, or the year of a listed Easter
abbrev pub time_of : Edit → ℕ
time_of (AddLand code name regime source) = 1
time_of (DropChange code day) = unsigned_abs day
time_of (AddChange code day regime source) = unsigned_abs day
time_of (AlterChange code day regime source) = unsigned_abs day
time_of (DropException code year) = unsigned_abs year
time_of (AddException code year day source) = unsigned_abs year

-- the turn of an edit is the earlier one, or it is the same with an earlier day or year
abbrev pub IsBefore : Edit → Edit → Type 0
IsBefore e f = (turn_of e < turn_of f) ⊎ ((turn_of e ≡ turn_of f) × (time_of e < time_of f))

-- an edit is before each of these
abbrev pub IsBeforeAll : Edit → List Edit → Type 0
IsBeforeAll e [] = Unit {0}
IsBeforeAll e (f ∷ fs) = IsBefore e f × IsBeforeAll e fs

-- each edit is one of the territory that has the code, and before those that come after it
abbrev pub AreInTurn : List ℕ → List Edit → Type 0
AreInTurn code [] = Unit {0}
AreInTurn code (e ∷ es) = (code_of e ≡ code) × IsBeforeAll e es × AreInTurn code es

-- the first edits are those of the first target territory in turn, and the others are in the same
-- way those of the target territories after it
abbrev pub AreInOrder : List EntryModel → List Edit → Type 0
AreInOrder [] edits = edits ≡ []
AreInOrder (l ∷ target) edits = (own : List Edit) × (others : List Edit)
    × (edits ≡ own ++ others) × AreInTurn l.code own × AreInOrder target others
