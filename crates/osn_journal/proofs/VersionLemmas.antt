-- Which versions have which edits.
use Rattle.std.proofs.Common.{◌≡◌, ◌++◌, ℕ, List, get_or, Option, Some, None, is_some}
use Rattle.std.proofs.Common.{refl, sym, ap}
use Rattle.std.proofs.lemmas.Bool.{false≢true}
use Rattle.std.proofs.lemmas.List.Elements.{All-weaker}
use Rattle.osn_register.specs.declared.edit.Edit.{Edit}
use Rattle.osn_register.specs.declared.edit.Edit.TheVariants.{AddLand, AddChange, AlterChange}
use Rattle.osn_register.specs.declared.edit.Edit.TheVariants.{DropChange, AddException}
use Rattle.osn_register.specs.declared.edit.Edit.TheVariants.{DropException}
use Rattle.osn_register.specs.Lawful.{source_given}
use Rattle.osn_core.specs.Sequential.{ObjectState, joined}
use Rattle.osn_request.specs.declared.version.Version.{Version}
use Rattle.osn_request.specs.declared.version.Version.TheVariants.{First, Second, Fourth}
use Rattle.osn_request.specs.Version.{plain_version}
use Rattle.osn_files.specs.LoadedText.{HasEdit, HasEdits, HasSource}
use Rattle.osn_files.proofs.VersionFacts.{newest_edit}
use Rattle.osn_service.specs.Sources.{GivesNoSource, KeepsSourceless}
use Rattle.osn_service.specs.declared.rules.ServeRules.{ServeRules}
use Rattle.osn_journal.specs.KeptJournal.{KeepsEdits}

-- every version has no source
has_none : (version : Version) (source : Option (List ℕ)) → source ≡ None
    → HasSource version source
has_none version None none = tt
has_none version (Some text) none = absurd (false≢true (sym (ap is_some none)))

-- the plain version has no other source than none
is_none : (source : Option (List ℕ)) → HasSource plain_version source → source ≡ None
is_none None has = refl
is_none (Some text) has = absurd (false≢true has)

-- the plain version has each edit that gives no source: its styles are those of the newest
pub plain_edit : (e : Edit) → source_given e ≡ None → HasEdit plain_version e
plain_edit (AddLand code name regime source) none =
    ((newest_edit (AddLand code name regime source)).0, has_none plain_version source none)
plain_edit (AddChange code day regime source) none =
    ((newest_edit (AddChange code day regime source)).0, has_none plain_version source none)
plain_edit (AlterChange code day regime source) none =
    ((newest_edit (AlterChange code day regime source)).0, has_none plain_version source none)
plain_edit (DropChange code day) none = tt
plain_edit (AddException code year day source) none = has_none plain_version source none
plain_edit (DropException code year) none = tt

-- and no other
none_given : (e : Edit) → HasEdit plain_version e → source_given e ≡ None
none_given (AddLand code name regime source) has = is_none source has.1
none_given (AddChange code day regime source) has = is_none source has.1
none_given (AlterChange code day regime source) has = is_none source has.1
none_given (DropChange code day) has = refl
none_given (AddException code year day source) has = is_none source has
none_given (DropException code year) has = refl

-- what has no source has the edits of the plain version, and the other way round
plain_edits : (s : ObjectState) → GivesNoSource s → HasEdits plain_version s
plain_edits s none =
    All-weaker (λ e. source_given e ≡ None) (HasEdit plain_version) plain_edit
    (joined s.batches ++ s.pending) none

gives_none : (s : ObjectState) → HasEdits plain_version s → GivesNoSource s
gives_none s has =
    All-weaker (HasEdit plain_version) (λ e. source_given e ≡ None) none_given
    (joined s.batches ++ s.pending) has

-- a version that has what is taken has the edits still
pub KeepsEdits-sourceless : (rules : ServeRules) (s t : ObjectState) → KeepsSourceless rules s t
    → KeepsEdits rules s t
KeepsEdits-sourceless rules s t keeps First taken has = absurd taken
KeepsEdits-sourceless rules s t keeps Second taken has =
    plain_edits t (keeps taken (gives_none s has))
KeepsEdits-sourceless rules s t keeps Fourth taken has =
    λ k d within. newest_edit (get_or (joined t.batches ++ t.pending) k d)
