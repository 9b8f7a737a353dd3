-- The members of a line's object by their types, or the first that is missing, of another type or
-- not one of its words. They are read of the value that `serde_json` reads. This project's profile.
use Rattle.std.specs.Prelude.{ℕ, ℤ, Bool, true, false, List, Option, Some, None, is_some}
use Rattle.std.specs.Prelude.{option_and_then, Result, Ok, Err, ◌&&◌, if◌then◌else◌}
use Rattle.serde_json.specs.Data.{Data}
use Rattle.serde_json.specs.Find.{get, as_str, as_number, as_i64}
use Rattle.osn_days.specs.Rules.{Rules}
use Rattle.osn_days.specs.CalendarWords.{calendar_named}
use Rattle.osn_days.specs.declared.calendar.Calendar.{Calendar}
use Rattle.osn_days.specs.declared.weekday.Weekday.{Weekday}
use Rattle.osn_computus.specs.RuleWords.{rule_named}
use Rattle.osn_territory.specs.declared.regime.Regime.{Regime}
use Rattle.osn_territory.specs.declared.style.Style.{Style}
use Rattle.osn_territory.specs.StyleWords.{style_named}
use Rattle.osn_register.specs.Sources.{is_source}
use Rattle.osn_written.specs.WrittenDate.{weekday_named}
use Rattle.osn_request.specs.declared.member.Member.{Member}
use Rattle.osn_request.specs.declared.member.Member.TheVariants as members
use Rattle.osn_request.specs.declared.wire_fault.WireFault.{WireFault}
use Rattle.osn_request.specs.declared.wire_fault.WireFault.TheVariants.{BadField}
use Rattle.osn_request.specs.declared.version.Version.{Version}
use Rattle.osn_request.specs.Member.{member_name}
use Rattle.osn_request.specs.Version.{has_sources}

-- one reading after another, if the first has no fault
infixl 10 ◌>>=◌
abbrev pub ◌>>=◌ : {A B : Type 0}
    → Result A WireFault → (A → Result B WireFault) → Result B WireFault
(Ok x) >>= f = f x
(Err e) >>= f = Err e

abbrev pub or_fault : {A : Type 0} → WireFault → Option A → Result A WireFault
or_fault fault None = Err fault
or_fault fault (Some x) = Ok x

-- a member that is a text
abbrev pub text_at : Member → Data → Result (List ℕ) WireFault
text_at m d = or_fault (BadField m) (option_and_then as_str (get (member_name m) d))

-- a member that is a whole number
abbrev pub whole_at : Member → Data → Result ℤ WireFault
whole_at m d =
    or_fault (BadField m)
    (option_and_then as_i64 (option_and_then as_number (get (member_name m) d)))

-- a member that is one of some words
abbrev pub word_at : {A : Type 0} → Member → (List ℕ → Option A) → Data → Result A WireFault
word_at m named d = text_at m d >>= λ word. or_fault (BadField m) (named word)

-- the weekday that a member names, if the member is there
abbrev pub weekday_if : Bool → Data → Result (Option Weekday) WireFault
weekday_if false d = Ok None
weekday_if true d = word_at members.Weekday weekday_named d >>= λ weekday. Ok (Some weekday)

-- the weekday of a member that may be left out, by its English name in letters of any case
abbrev pub weekday_at : Data → Result (Option Weekday) WireFault
weekday_at d = weekday_if (is_some (get (member_name members.Weekday) d)) d

-- the member that is a calendar's word
abbrev pub calendar_at : Data → Result Calendar WireFault
calendar_at d = word_at members.Calendar calendar_named d

-- the member that is a style's word, if the rules have it
abbrev pub style_at : Rules → Data → Result Style WireFault
style_at p d = word_at members.Style (style_named p) d

-- a regime by its three members
unfoldable pub regime_of : Rules → Data → Result Regime WireFault
regime_of p d = do
  calendar ← word_at members.Calendar calendar_named d
  style ← style_at p d
  rule ← word_at members.Rule rule_named d
  Ok (record { calendar = calendar; style = style; rule = rule })

-- the source that a member gives, if the member is there
abbrev pub given_source_at : Data → Result (List ℕ) WireFault
given_source_at d = text_at members.Source d >>= λ text.
    if is_source text then Ok text else Err (BadField members.Source)

abbrev pub source_if : Bool → Data → Result (Option (List ℕ)) WireFault
source_if false d = Ok None
source_if true d = given_source_at d >>= λ source. Ok (Some source)

-- the source of a member that may be left out, and that an earlier version does not look at
abbrev pub source_at : Version → Data → Result (Option (List ℕ)) WireFault
source_at v d = source_if (has_sources v && is_some (get (member_name members.Source) d)) d
