-- The edits that the table of a territory says, each with its part of the table: the territory
-- itself, its changes and its listed Easters. This project's profile.
use Rattle.std.specs.Prelude.{ℕ, ◌+◌, ℤ, int_lt, Bool, true, if◌then◌else◌, List, [], ◌∷◌}
use Rattle.std.specs.Prelude.{◌++◌, Option, Some, None, Result, Ok, Err}
use Rattle.toml.specs.Data.{Data, Items, no_items, item, Members}
use Rattle.osn_territory.specs.declared.regime.Regime.{Regime}
use Rattle.osn_register.specs.declared.edit.Edit.{Edit}
use Rattle.osn_register.specs.declared.edit.Edit.TheVariants.{AddLand, AddChange, AddException}
use Rattle.osn_register_text.specs.declared.key.Key.TheVariants as keys
use Rattle.osn_register_text.specs.declared.key.Part.{Part}
use Rattle.osn_register_text.specs.declared.key.Part.TheVariants as parts
use Rattle.osn_register_text.specs.declared.fault.KeyFault.{KeyFault}
use Rattle.osn_register_text.specs.declared.fault.Reason.TheVariants.{NotLater}
use Rattle.osn_register_text.specs.Field.{Place, ◌>>=◌, fault_of, table_of, text_at, whole_at}
use Rattle.osn_register_text.specs.Field.{note_of, source_at, items_at, regime_of}
use Rattle.osn_register_text.specs.DayField.{day_at}

-- an edit, with the table that says it
abbrev pub Placed : Type 0
Placed = Part × Edit

-- ---- changes

abbrev pub is_later : Option ℤ → ℤ → Bool
is_later None day = true
is_later (Some before) day = int_lt before day

-- the day of a change, which is later than that of the change before it
abbrev pub if_later : Place → Option ℤ → ℤ → Result ℤ KeyFault
if_later at before day = if is_later before day then Ok day else Err (fault_of at NotLater)

-- the day, the regime and the source of a change, after the period before it
unfoldable pub change_of : Place → Option ℤ → Regime → Members
    → Result (ℤ × Regime × Option (List ℕ)) KeyFault
change_of at before regime ms = do
  day ← day_at at keys.From ms
  changed ← regime_of at (Some regime) ms
  source ← source_at at ms
  note ← note_of at ms
  later ← if_later at before day
  Ok (later, changed, source)

-- the changes from that of a number on, after a change on a day and under a regime
abbrev pub changes_from : List ℕ → ℕ → Option ℤ → Regime → Items → Result (List Placed) KeyFault
changes_from code n before regime no_items = Ok []
changes_from code n before regime (item d ds) = do
  ms ← table_of (record { code = code; part = parts.Change n }) d
  change ← change_of (record { code = code; part = parts.Change n }) before regime ms
  rest ← changes_from code (n + 1) (Some change.0) change.1 ds
  Ok ((parts.Change n, AddChange code change.0 change.1 change.2) ∷ rest)

-- ---- listed Easters

-- the year, the day and the source of a listed Easter
unfoldable pub easter_of : Place → Members → Result (ℤ × ℤ × Option (List ℕ)) KeyFault
easter_of at ms = do
  year ← whole_at at keys.Year ms
  day ← day_at at keys.Date ms
  source ← source_at at ms
  note ← note_of at ms
  Ok (year, day, source)

-- the listed Easters from that of a number on
abbrev pub easters_from : List ℕ → ℕ → Items → Result (List Placed) KeyFault
easters_from code n no_items = Ok []
easters_from code n (item d ds) = do
  ms ← table_of (record { code = code; part = parts.Easter n }) d
  easter ← easter_of (record { code = code; part = parts.Easter n }) ms
  rest ← easters_from code (n + 1) ds
  Ok ((parts.Easter n, AddException code easter.0 easter.1 easter.2) ∷ rest)

-- ---- territories

-- the name of a territory, its opening regime and the source of that
unfoldable pub opening_of : Place → Members
    → Result (List ℕ × Regime × Option (List ℕ)) KeyFault
opening_of at ms = do
  name ← text_at at keys.Name ms
  regime ← regime_of at None ms
  source ← source_at at ms
  note ← note_of at ms
  Ok (name, regime, source)

-- the edits of a territory by its table
unfoldable pub territory_edits : List ℕ → Data → Result (List Placed) KeyFault
territory_edits code d = do
  ms ← table_of (record { code = code; part = parts.Territory }) d
  opening ← opening_of (record { code = code; part = parts.Territory }) ms
  change_tables ← items_at (record { code = code; part = parts.Territory }) keys.Changes ms
  changes ← changes_from code 1 None opening.1 change_tables
  easter_tables ← items_at (record { code = code; part = parts.Territory }) keys.Easters ms
  easters ← easters_from code 1 easter_tables
  Ok ((parts.Territory, AddLand code opening.0 opening.1 opening.2) ∷ (changes ++ easters))
