-- The line of an edit, between the present territories and the target ones. What is dropped is
-- printed from the present ones, and what is added from the target ones. This project's profile.
use Rattle.std.specs.Prelude.{ℕ, if◌then◌else◌, ℤ, pos, List, [], ◌++◌, None, codes}
use Rattle.std.specs.Ordering.{int_eq}
use Rattle.osn_days.specs.Rules.{Rules}
use Rattle.osn_territory.specs.declared.regime.Regime.{Regime}
use Rattle.osn_register.specs.declared.edit.Edit.{Edit}
use Rattle.osn_register.specs.declared.edit.Edit.TheVariants.{AddLand, AddChange, AlterChange}
use Rattle.osn_register.specs.declared.edit.Edit.TheVariants.{DropChange, AddException}
use Rattle.osn_register.specs.declared.edit.Edit.TheVariants.{DropException}
use Rattle.osn_register.specs.Lawful.{source_given}
use Rattle.osn_register.specs.Plain.{EntryModel, territory_of}
use Rattle.osn_register_text.specs.Line.{change_words, drop_words, easter_words, territory_words}
use Rattle.osn_register_text.specs.Line.{no_easter_words, opening_words}
use Rattle.osn_register_text.specs.EditDay.{day_words, dated_in, opening_regime, regime_before}
use Rattle.osn_register_text.specs.ChangeDays.{followed_lines}
use Rattle.osn_register_text.specs.Part.{regime_words}
use Rattle.osn_register_text.specs.Remark.{easter_notes, same_regime_note}
use Rattle.osn_register_text.specs.SourceWords.{source_before, source_words}

-- the day of a number, as the territory of a code dates it
abbrev pub day_in : Rules → List EntryModel → List ℕ → ℤ → List ℕ
day_in p territories code day = day_words (dated_in p (territory_of code territories) day) day

-- a new territory, with its whole regime
abbrev pub new_territory : List ℕ → List ℕ → Regime → List ℕ
new_territory code name regime = territory_words code name (regime_words None regime)

-- a regime from a day on, by what differs from the day before
abbrev pub new_change : Rules → List EntryModel → List ℕ → ℤ → Regime → List ℕ
new_change p target code day regime = change_words code (day_in p target code day)
    (regime_words (regime_before p (territory_of code target) day) regime)

-- another opening regime, by what differs from the present one
abbrev pub new_opening : List EntryModel → List ℕ → Regime → List ℕ
new_opening territories code regime =
    opening_words code (regime_words (opening_regime (territory_of code territories)) regime)

-- the line that another regime is in force from the start of a period on. The opening one has no
-- day
abbrev pub other_regime : Rules → List EntryModel → List EntryModel → List ℕ → ℤ → Regime → List ℕ
other_regime p territories target code day regime =
    if int_eq day (pos 1) then new_opening territories code regime
    else new_change p target code day regime

-- what an edit changes
unfoldable pub edit_words : Rules → List EntryModel → List EntryModel → Edit → List ℕ
edit_words p territories target (AddLand code name regime source) = new_territory code name regime
edit_words p territories target (AddChange code day regime source) =
    new_change p target code day regime
edit_words p territories target (AlterChange code day regime source) =
    other_regime p territories target code day regime
edit_words p territories target (DropChange code day) =
    drop_words code (day_in p territories code day)
edit_words p territories target (AddException code year day source) =
    easter_words code year (day_in p target code day)
edit_words p territories target (DropException code year) = no_easter_words code year

-- what an editor is shown of a change of regime: the days around it, and that it changes nothing
abbrev pub change_remarks : Rules → List EntryModel → List ℕ → ℤ → Regime → List ℕ
change_remarks p target code day regime =
    followed_lines p code (territory_of code target) day
    ++ same_regime_note code (regime_before p (territory_of code target) day) regime

-- what an editor is shown of an edit, in lines of their own: the days around a change of regime, as
-- they are dated once it is made or dropped, and what is unlikely of an Easter
unfoldable pub remarks : Rules → List EntryModel → Edit → List ℕ
remarks p target (AddLand code name regime source) = []
remarks p target (AddChange code day regime source) = change_remarks p target code day regime
remarks p target (AlterChange code day regime source) = change_remarks p target code day regime
remarks p target (DropChange code day) = followed_lines p code (territory_of code target) day
remarks p target (AddException code year day source) = easter_notes p code year day
remarks p target (DropException code year) = []

-- the line of an edit: what it changes, and what it says of the source; then what is shown of it
unfoldable pub edit_line : Rules → List EntryModel → List EntryModel → Edit → List ℕ
edit_line p territories target edit =
    edit_words p territories target edit
    ++ (source_words (source_given edit) (source_before p territories edit)
    ++ (codes "\n" ++ remarks p target edit))
