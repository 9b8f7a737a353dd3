-- How a territory reckons, in words: the parts of a regime. This project's profile.
use Rattle.std.specs.Prelude.{ℕ, Bool, true, not, ◌||◌, List, [], ◌∷◌, ◌++◌, filter, codes}
use Rattle.std.specs.Prelude.{Option, Some, None}
use Rattle.std.specs.List.{flat_map}
use Rattle.std.specs.Str.{bytes_eq}
use Rattle.osn_computus.specs.RuleWords.{rule_word}
use Rattle.osn_days.specs.CalendarWords.{calendar_word}
use Rattle.osn_territory.specs.declared.regime.Regime.{Regime}
use Rattle.osn_territory.specs.StyleWords.{style_word, beginning_of_year}
use Rattle.osn_register_text.specs.declared.part.Part.{Part}
use Rattle.osn_register_text.specs.declared.part.Part.TheVariants.{Calendar, Beginning, Easter}

-- a part: julian calendar, years from 25 March, julian rule
unfoldable pub part_words : Part → List ℕ
part_words (Calendar calendar) = calendar_word calendar ++ codes " calendar"
part_words (Beginning style) = beginning_of_year style
part_words (Easter rule) = rule_word rule ++ codes " rule"

-- the parts of a regime
abbrev pub parts_of : Regime → List Part
parts_of regime =
    Calendar regime.calendar ∷ Beginning regime.style ∷ Easter regime.rule ∷ []

-- a regime has the part too
abbrev pub is_part_of : Regime → Part → Bool
is_part_of regime (Calendar calendar) =
    bytes_eq (calendar_word calendar) (calendar_word regime.calendar)
is_part_of regime (Beginning style) = bytes_eq (style_word style) (style_word regime.style)
is_part_of regime (Easter rule) = bytes_eq (rule_word rule) (rule_word regime.rule)

-- the part differs from the regime before, or there was no regime before
abbrev pub is_other : Option Regime → Part → Bool
is_other None part = true
is_other (Some before) part = not (is_part_of before part)

-- a part of a regime differs from before, or there was no regime before
abbrev pub is_other_regime : Option Regime → Regime → Bool
is_other_regime before regime =
    is_other before (Calendar regime.calendar)
    || (is_other before (Beginning regime.style) || is_other before (Easter regime.rule))

abbrev pub other_parts : Option Regime → Regime → List Part
other_parts before regime = filter (is_other before) (parts_of regime)

-- parts with commas between them
unfoldable pub further_part : Part → List ℕ
further_part part = codes ", " ++ part_words part

abbrev pub part_list : List Part → List ℕ
part_list [] = codes "the same regime"
part_list (first ∷ further) = part_words first ++ flat_map further_part further

-- what differs from before, in words
abbrev pub regime_words : Option Regime → Regime → List ℕ
regime_words before regime = part_list (other_parts before regime)
