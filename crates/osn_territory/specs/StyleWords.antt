-- The words of year styles, in a line and in a reply, which of them the rules have, and when the
-- years of a style begin. This project's profile.
use Rattle.std.specs.Prelude.{ℕ, Bool, if◌then◌else◌, List, [], ◌∷◌, codes}
use Rattle.std.specs.Prelude.{Option, Some, None, option_and_then}
use Rattle.std.specs.List.{list_any}
use Rattle.std.specs.Str.{bytes_eq}
use Rattle.osn_days.specs.Keyword.{written_by}
use Rattle.osn_days.specs.Rules.{Rules}
use Rattle.osn_territory.specs.declared.style.Style.{Style}
use Rattle.osn_territory.specs.declared.style.Style.TheVariants.{January, Annunciation, Nativity}
use Rattle.osn_territory.specs.declared.style.Style.TheVariants.{September, Pisan, Easter}

abbrev pub style_word : Style → List ℕ
style_word January = codes "january"
style_word Annunciation = codes "annunciation"
style_word Nativity = codes "nativity"
style_word September = codes "september"
style_word Pisan = codes "pisan"
style_word Easter = codes "easter"

-- when the years of a style begin
unfoldable pub beginning_of_year : Style → List ℕ
beginning_of_year January = codes "years from 1 January"
beginning_of_year Annunciation = codes "years from 25 March"
beginning_of_year Nativity = codes "years from 25 December"
beginning_of_year September = codes "years from 1 September"
beginning_of_year Pisan = codes "years from the 25 March before"
beginning_of_year Easter = codes "years from Easter"

-- the style that is written by a word, whatever the rules
abbrev pub style_written : List ℕ → Option Style
style_written =
    written_by style_word
    (January ∷ Annunciation ∷ Nativity ∷ September ∷ Pisan ∷ Easter ∷ [])

-- the rules have the style's word
abbrev pub has_style : Rules → Style → Bool
has_style p style = list_any (bytes_eq (style_word style)) p.style_words

-- the style of a word, if the rules have it
abbrev pub style_named : Rules → List ℕ → Option Style
style_named p word =
    option_and_then (λ style. if has_style p style then Some style else None) (style_written word)
