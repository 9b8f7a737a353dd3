-- A text that is loaded as an object, and what the line of a change makes of it. This project's
-- profile.
use Rattle.std.specs.Prelude.{◌≡◌, ⊤, ℕ, true, List, [], ◌∷◌, ◌++◌, Option, None, Some, Ok}
use Rattle.std.specs.List.{All}
use Rattle.osn_days.specs.Rules.{newest_rules}
use Rattle.osn_territory.specs.declared.regime.Regime.{Regime}
use Rattle.osn_territory.specs.StyleWords.{has_style}
use Rattle.osn_register.specs.declared.edit.Edit.{Edit}
use Rattle.osn_register.specs.declared.edit.Edit.TheVariants.{AddLand, AddChange, AlterChange}
use Rattle.osn_register.specs.declared.edit.Edit.TheVariants.{DropChange, AddException}
use Rattle.osn_register.specs.declared.edit.Edit.TheVariants.{DropException}
use Rattle.osn_register.specs.declared.limits.Limits.{Limits}
use Rattle.osn_core.specs.Sequential.{ObjectState, HasLawfulSource, joined, with_pending}
use Rattle.osn_core.specs.Sequential.{with_edition}
use Rattle.osn_core.specs.Sequential.{stage_refusal, publish_refusal}
use Rattle.osn_lines.specs.Lines.{lines, EndsWithFeed}
use Rattle.osn_request.specs.declared.version.Version.{Version}
use Rattle.osn_request.specs.Version.{rules_of, has_sources}
use Rattle.osn_files.specs.Journal.{load}
use Rattle.osn_files.specs.JournalText.{edit_data, publish_data, line_text}
use Rattle.osn_files.specs.Version.{version_of}

-- ---- what a version has

-- a version has the style of a regime
abbrev pub HasStyle : Version → Regime → Type 0
HasStyle version regime = has_style (rules_of version) regime.style ≡ true

-- a version has the source of an edit, if one is given
abbrev pub HasSource : Version → Option (List ℕ) → Type 0
HasSource version None = ⊤
HasSource version (Some source) = has_sources version ≡ true

-- A version has an edit: its style, if it has one, and its source, if it gives one. All else is the
-- same in every version.
abbrev pub HasEdit : Version → Edit → Type 0
HasEdit version (AddLand code name regime source) =
    HasStyle version regime × HasSource version source
HasEdit version (AddChange code day regime source) =
    HasStyle version regime × HasSource version source
HasEdit version (AlterChange code day regime source) =
    HasStyle version regime × HasSource version source
HasEdit version (DropChange code day) = ⊤
HasEdit version (AddException code year day source) = HasSource version source
HasEdit version (DropException code year) = ⊤

-- it has each edit of an object
abbrev pub HasEdits : Version → ObjectState → Type 0
HasEdits version s = All (HasEdit version) (joined s.batches ++ s.pending)

-- ---- loading

-- the first line is a head that says this version
abbrev pub IsOfVersion : Version → List (List ℕ) → Type 0
IsOfVersion version [] = ⊥
IsOfVersion version (head ∷ rest) = version_of head ≡ Ok version

-- A text of whole lines, whose head says this version, is loaded under these limits as an object.
-- Its bytes may be others than those that are written of the object.
pub record IsJournalOf (version : Version) (limits : Limits) (s : ObjectState) (text : List ℕ)
    : Type 0 where
  pub head : IsOfVersion version (lines text)
  pub ends : EndsWithFeed text
  pub loads : load newest_rules limits (lines text) ≡ Ok s

-- What the lines of changes make of a text that is loaded as an object. With the line of an edit
-- that is not refused, and that the text's version has, it is loaded with one edit more that is
-- pending. A source that the edit gives is one that may be given. With the line of a publish that
-- is not refused it is loaded with one edition more.
pub record LoadsByLines (version : Version) (limits : Limits) (s : ObjectState) (text : List ℕ)
    : Type 0 where
  pub edit : (e : Edit) → HasEdit version e → HasLawfulSource e
      → stage_refusal newest_rules s e ≡ None
      → IsJournalOf version limits (with_pending s e) (text ++ line_text (edit_data e))
  pub publish : publish_refusal s ≡ None
      → IsJournalOf version limits (with_edition s) (text ++ line_text publish_data)
