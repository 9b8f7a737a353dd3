-- The text of a plan: the lines of its edits, and that of the territories that stay as they are.
-- This project's profile.
use Rattle.std.specs.Prelude.{ℕ, ◌==◌, if◌then◌else◌, is_some, List, [], ◌++◌, codes, length}
use Rattle.std.specs.List.{flat_map}
use Rattle.osn_days.specs.Rules.{Rules}
use Rattle.osn_register.specs.declared.edit.Edit.{Edit}
use Rattle.osn_register.specs.Plain.{EntryModel, entry_of}
use Rattle.osn_register_text.specs.EditLine.{edit_line}

-- a blank and the code of a territory that is not in the target
unfoldable pub absent_code : List EntryModel → List ℕ → List ℕ
absent_code target code =
    if is_some (entry_of code target) then [] else codes " " ++ code

-- the codes of all territories that are not in the target, in the order of addition
abbrev pub absent_codes : List EntryModel → List EntryModel → List ℕ
absent_codes target territories = flat_map (λ l. absent_code target l.code) territories

-- not in the text, so unchanged: SE RM
unfoldable pub absent_line : List ℕ → List ℕ
absent_line names =
    if length names == 0 then []
    else codes "not in the text, so unchanged:" ++ (names ++ codes "\n")

-- the whole text
abbrev pub plan_page : Rules → List EntryModel → List EntryModel → List Edit → List ℕ
plan_page p territories target edits =
    flat_map (edit_line p territories target) edits
    ++ absent_line (absent_codes target territories)
