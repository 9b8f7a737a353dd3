-- The text of a journal: a head, the edits of each batch with a publish after them, and then the
-- pending edits, a line each. The members of a line are in ascending order of their names. A source
-- has a member if one is given, and only then. This project's profile.
use Rattle.std.specs.Prelude.{ℕ, ℤ, Bool, ◌||◌, if◌then◌else◌, List, [], ◌∷◌, ◌++◌, codes}
use Rattle.std.specs.Prelude.{Option, is_some}
use Rattle.std.specs.List.{flat_map, list_any}
use Rattle.serde_json.specs.Data.{Data, string, object, member, no_members}
use Rattle.serde_json.specs.Written.{compact_text}
use Rattle.osn_days.specs.CalendarWords.{calendar_word}
use Rattle.osn_computus.specs.RuleWords.{rule_word}
use Rattle.osn_territory.specs.declared.regime.Regime.{Regime}
use Rattle.osn_territory.specs.StyleWords.{style_word}
use Rattle.osn_register.specs.declared.edit.Edit.{Edit}
use Rattle.osn_register.specs.declared.edit.Edit.TheVariants.{AddLand, AddChange, AlterChange}
use Rattle.osn_register.specs.declared.edit.Edit.TheVariants.{DropChange, AddException}
use Rattle.osn_register.specs.declared.edit.Edit.TheVariants.{DropException}
use Rattle.osn_register.specs.Lawful.{source_given}
use Rattle.osn_core.specs.Sequential.{ObjectState}
use Rattle.osn_request.specs.Json.{signed, source_member}
use Rattle.osn_request.specs.declared.version.Version.{Version}
use Rattle.osn_request.specs.declared.version.Version.TheVariants.{Fourth}
use Rattle.osn_request.specs.Version.{plain_version}
use Rattle.osn_files.specs.Version.{head_data}

-- the members of an edit that begins or alters a regime on a day, whose operation is `op`
abbrev pub change_data : List ℕ → List ℕ → ℤ → Regime → Option (List ℕ) → Data
change_data op code day regime source = object (
    member (codes "calendar") (string (calendar_word regime.calendar))
    (member (codes "code") (string code)
    (member (codes "day") (signed day)
    (member (codes "op") (string op)
    (member (codes "rule") (string (rule_word regime.rule))
    (source_member source
    (member (codes "style") (string (style_word regime.style))
    no_members)))))))

-- an edit with the members of its row, and what it asks for
abbrev pub edit_data : Edit → Data
edit_data (AddLand code name regime source) = object (
    member (codes "calendar") (string (calendar_word regime.calendar))
    (member (codes "code") (string code)
    (member (codes "name") (string name)
    (member (codes "op") (string (codes "add_land"))
    (member (codes "rule") (string (rule_word regime.rule))
    (source_member source
    (member (codes "style") (string (style_word regime.style))
    no_members)))))))
edit_data (AddChange code day regime source) =
    change_data (codes "add_change") code day regime source
edit_data (AlterChange code day regime source) =
    change_data (codes "alter_change") code day regime source
edit_data (DropChange code day) = object (
    member (codes "code") (string code)
    (member (codes "day") (signed day)
    (member (codes "op") (string (codes "drop_change"))
    no_members)))
edit_data (AddException code year day source) = object (
    member (codes "code") (string code)
    (member (codes "day") (signed day)
    (member (codes "op") (string (codes "add_exception"))
    (source_member source
    (member (codes "year") (signed year)
    no_members)))))
edit_data (DropException code year) = object (
    member (codes "code") (string code)
    (member (codes "op") (string (codes "drop_exception"))
    (member (codes "year") (signed year)
    no_members)))

abbrev pub publish_data : Data
publish_data = object (member (codes "op") (string (codes "publish")) no_members)

-- a value on a line of its own
unfoldable pub line_text : Data → List ℕ
line_text d = compact_text d ++ 10 ∷ []

-- edits in order
abbrev pub edits_text : List Edit → List ℕ
edits_text = flat_map (λ e. line_text (edit_data e))

-- a batch, and its publish
abbrev pub batch_text : List Edit → List ℕ
batch_text batch = edits_text batch ++ line_text publish_data

-- batches in order
abbrev pub batches_text : List (List Edit) → List ℕ
batches_text = flat_map batch_text

-- the whole journal, with a head that says this version
abbrev pub journal_text_of : Version → ObjectState → List ℕ
journal_text_of version s =
    line_text (head_data version) ++ (batches_text s.batches ++ edits_text s.pending)

-- whether an edit gives a source, and whether one of some edits does
abbrev pub gives_source : Edit → Bool
gives_source e = is_some (source_given e)

abbrev pub give_source : List Edit → Bool
give_source = list_any gives_source

-- whether one of an object does, published or pending
abbrev pub gives_any_source : ObjectState → Bool
gives_any_source s = list_any give_source s.batches || give_source s.pending

-- the version that a journal's head says: the fourth if an edit gives a source, otherwise the plain
-- one
abbrev pub version_for : ObjectState → Version
version_for s = if gives_any_source s then Fourth else plain_version

-- the whole journal
abbrev pub journal_text : ObjectState → List ℕ
journal_text s = journal_text_of (version_for s) s
