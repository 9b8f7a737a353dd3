-- What a table of a text has at its keys, or the first fault there. This project's profile.
use Rattle.std.specs.Prelude.{ℕ, ℤ, if◌then◌else◌, List, Option, Some, None}
use Rattle.std.specs.Prelude.{option_map, Result, Ok, Err}
use Rattle.toml.specs.Data.{Data, as_array, as_integer, as_str, as_table, get_member}
use Rattle.toml.specs.Data.{Items, no_items, Members, no_members, member}
use Rattle.osn_days.specs.declared.calendar.Calendar.{Calendar}
use Rattle.osn_days.specs.CalendarWords.{calendar_named}
use Rattle.osn_computus.specs.declared.rule.Rule.{Rule}
use Rattle.osn_computus.specs.RuleWords.{rule_named}
use Rattle.osn_territory.specs.StyleWords.{style_written}
use Rattle.osn_territory.specs.declared.regime.Regime.{Regime}
use Rattle.osn_territory.specs.declared.style.Style.{Style}
use Rattle.osn_register.specs.Sources.{is_source}
use Rattle.osn_register_text.specs.declared.key.Key.{Key}
use Rattle.osn_register_text.specs.declared.key.Key.TheVariants as keys
use Rattle.osn_register_text.specs.declared.key.Part.{Part}
use Rattle.osn_register_text.specs.declared.fault.KeyFault.{KeyFault}
use Rattle.osn_register_text.specs.declared.fault.ValueFault.{ValueFault}
use Rattle.osn_register_text.specs.declared.fault.ValueFault.TheVariants.{Missing, Form}
use Rattle.osn_register_text.specs.declared.fault.ValueFault.TheVariants.{UnknownWord}
use Rattle.osn_register_text.specs.declared.fault.Reason.{Reason}
use Rattle.osn_register_text.specs.declared.fault.Reason.TheVariants.{NotTable, UnknownKey, Value}
use Rattle.osn_register_text.specs.Key.{key_name, is_key_of}

-- a table of a text: the territory of a code, or a part of it
pub record Place : Type 0 where
  pub code : List ℕ
  pub part : Part

-- one reading after another, if the first has no fault
infixl 10 ◌>>=◌
abbrev pub ◌>>=◌ : {A B E : Type 0} → Result A E → (A → Result B E) → Result B E
(Ok x) >>= f = f x
(Err e) >>= f = Err e

abbrev pub or_fault : {A E : Type 0} → E → Option A → Result A E
or_fault fault None = Err fault
or_fault fault (Some x) = Ok x

-- what is wrong with a table
abbrev pub fault_of : Place → Reason → KeyFault
fault_of at reason = record { code = at.code; part = at.part; reason = reason }

-- what is wrong with the value at a key of a table
abbrev pub fault_at : Place → Key → ValueFault → KeyFault
fault_at at key fault = fault_of at (Value key fault)

-- ---- keys

-- the first key that a table may not have
abbrev pub unknown_key : Part → Members → Option (List ℕ)
unknown_key part no_members = None
unknown_key part (member k d ms) = if is_key_of part k then unknown_key part ms else Some k

abbrev pub unless_unknown : Place → Members → Option (List ℕ) → Result Members KeyFault
unless_unknown at ms None = Ok ms
unless_unknown at ms (Some k) = Err (fault_of at (UnknownKey k))

-- the members of a table that has only keys that it may have
abbrev pub table_of : Place → Data → Result Members KeyFault
table_of at d =
    or_fault (fault_of at NotTable) (as_table d)
    >>= λ ms. unless_unknown at ms (unknown_key at.part ms)

-- the value at a key
abbrev pub value_at : Key → Members → Option Data
value_at key ms = get_member (key_name key) ms

-- the value at a required key
abbrev pub required_value : Place → Key → Members → Result Data KeyFault
required_value at key ms = or_fault (fault_at at key Missing) (value_at key ms)

-- ---- texts, whole numbers and lists

abbrev pub text_in : Place → Key → Data → Result (List ℕ) KeyFault
text_in at key d = or_fault (fault_at at key Form) (as_str d)

-- the text at a key
abbrev pub text_at : Place → Key → Members → Result (List ℕ) KeyFault
text_at at key ms = required_value at key ms >>= text_in at key

-- the whole number at a key
abbrev pub whole_at : Place → Key → Members → Result ℤ KeyFault
whole_at at key ms = required_value at key ms >>= λ d. or_fault (fault_at at key Form)
    (as_integer d)

abbrev pub note_in : Place → Option Data → Result (Option (List ℕ)) KeyFault
note_in at None = Ok None
note_in at (Some d) = text_in at keys.Note d >>= λ note. Ok (Some note)

-- the note, a text that may be left out
abbrev pub note_of : Place → Members → Result (Option (List ℕ)) KeyFault
note_of at ms = note_in at (value_at keys.Note ms)

-- a text, if it may be a source
abbrev pub if_source : Place → List ℕ → Result (List ℕ) KeyFault
if_source at text = if is_source text then Ok text else Err (fault_at at keys.Source Form)

abbrev pub source_in : Place → Option Data → Result (Option (List ℕ)) KeyFault
source_in at None = Ok None
source_in at (Some d) =
    text_in at keys.Source d >>= if_source at >>= λ source. Ok (Some source)

-- the source, which may be left out
abbrev pub source_at : Place → Members → Result (Option (List ℕ)) KeyFault
source_at at ms = source_in at (value_at keys.Source ms)

abbrev pub items_in : Place → Key → Option Data → Result Items KeyFault
items_in at key None = Ok no_items
items_in at key (Some d) = or_fault (fault_at at key Form) (as_array d)

-- the list at a key, or an empty one if the key is left out
abbrev pub items_at : Place → Key → Members → Result Items KeyFault
items_at at key ms = items_in at key (value_at key ms)

-- ---- regimes

-- what a word means
abbrev pub meaning_in : {A : Type 0} → Place → Key → (List ℕ → Option A) → Data → Result A KeyFault
meaning_in at key named d =
    text_in at key d >>= λ word. or_fault (fault_at at key (UnknownWord word)) (named word)

-- what a key's word means, or what held before if the key is left out
abbrev pub meaning_or : {A : Type 0}
    → Place → Key → (List ℕ → Option A) → Option A → Option Data → Result A KeyFault
meaning_or at key named before (Some d) = meaning_in at key named d
meaning_or at key named before None = or_fault (fault_at at key Missing) before

abbrev pub word_at : {A : Type 0}
    → Place → Key → (List ℕ → Option A) → Option A → Members → Result A KeyFault
word_at at key named before ms = meaning_or at key named before (value_at key ms)

abbrev pub calendar_at : Place → Option Regime → Members → Result Calendar KeyFault
calendar_at at before ms =
    word_at at keys.Calendar calendar_named (option_map (λ r. r.calendar) before) ms

abbrev pub style_at : Place → Option Regime → Members → Result Style KeyFault
style_at at before ms = word_at at keys.Style style_written (option_map (λ r. r.style) before) ms

abbrev pub rule_at : Place → Option Regime → Members → Result Rule KeyFault
rule_at at before ms = word_at at keys.Rule rule_named (option_map (λ r. r.rule) before) ms

-- the regime of a table: what it says of one, and otherwise what held before
unfoldable pub regime_of : Place → Option Regime → Members → Result Regime KeyFault
regime_of at before ms = do
  calendar ← calendar_at at before ms
  style ← style_at at before ms
  rule ← rule_at at before ms
  Ok (record { calendar = calendar; style = style; rule = rule })
