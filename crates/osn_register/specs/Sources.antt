-- The sources of a territory's reckoning: of each period and of each listed Easter. This project's
-- profile.
use Rattle.std.specs.Prelude.{ℕ, Bool, true, not, ◌≡◌, ◌==◌, ◌&&◌, List, [], ◌∷◌, ◌++◌, filter}
use Rattle.std.specs.Prelude.{find, Option, Some, None, option_map, IfSome}
use Rattle.std.specs.List.{list_all}
use Rattle.std.specs.Str.{is_utf8}
use Rattle.osn_register.specs.Code.{has_length, is_name_byte}

-- 1 to 1,000 bytes of UTF-8, none a control byte
abbrev pub is_source : List ℕ → Bool
is_source bytes = has_length 1 1000 bytes && (list_all is_name_byte bytes && is_utf8 bytes)

-- the sources of a territory: that of a period by the day on which it starts, that of a listed
-- Easter by its year
pub record SourcesModel : Type 0 where
  pub periods : List (ℕ × List ℕ)
  pub easters : List (ℕ × List ℕ)

-- the source of a number, if one is given
abbrev pub source_of : ℕ → List (ℕ × List ℕ) → Option (List ℕ)
source_of n sources = option_map (λ s. s.1) (find (λ s. s.0 == n) sources)

-- the sources without that of a number
abbrev pub without_source : ℕ → List (ℕ × List ℕ) → List (ℕ × List ℕ)
without_source n sources = filter (λ s. not (s.0 == n)) sources

-- the sources with this one of a number, or without the number if no source is given
abbrev pub with_source : ℕ → Option (List ℕ) → List (ℕ × List ℕ) → List (ℕ × List ℕ)
with_source n None sources = without_source n sources
with_source n (Some source) sources = without_source n sources ++ (n, source) ∷ []

-- the sources with this one of the period that starts on a day, or without that day
abbrev pub with_period_source : ℕ → Option (List ℕ) → SourcesModel → SourcesModel
with_period_source day source s =
    record { periods = with_source day source s.periods; easters = s.easters }

-- the sources with this one of a year's listed Easter, or without that year
abbrev pub with_easter_source : ℕ → Option (List ℕ) → SourcesModel → SourcesModel
with_easter_source year source s =
    record { periods = s.periods; easters = with_source year source s.easters }

-- the sources of a new territory: that of its opening period
abbrev pub opening_sources : Option (List ℕ) → SourcesModel
opening_sources source = record { periods = with_source 1 source []; easters = [] }

-- no source is given, or one that may be given
abbrev pub IsGiven : Option (List ℕ) → Type 0
IsGiven source = IfSome source (λ text. is_source text ≡ true)

-- each source is one that may be given
abbrev pub AreSources : List (ℕ × List ℕ) → Type 0
AreSources [] = Unit {0}
AreSources (s ∷ ss) = (is_source s.1 ≡ true) × AreSources ss

pub record HasSources (s : SourcesModel) : Type 0 where
  pub periods : AreSources s.periods
  pub easters : AreSources s.easters
