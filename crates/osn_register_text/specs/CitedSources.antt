-- The sources of a territory in two registers: the present ones, and the target ones.
use Rattle.std.specs.Prelude.{ℕ, Bool, true, false, List, Option, Some, None}
use Rattle.std.specs.Str.{bytes_eq}
use Rattle.osn_register.specs.Answer.{period_source, easter_source}
use Rattle.osn_register.specs.Plain.{EntryModel, sources_of}
use Rattle.osn_register.specs.Sources.{SourcesModel}

pub record BothSources : Type 0 where
  pub current : Option SourcesModel
  pub target : Option SourcesModel

-- the sources of the territory that has the code, in the register now and in the target
abbrev pub both_sources : List ℕ → List EntryModel → List EntryModel → BothSources
both_sources code territories target =
    record { current = sources_of code territories; target = sources_of code target }

-- the two are one, or neither is given
abbrev pub same_source : Option (List ℕ) → Option (List ℕ) → Bool
same_source None None = true
same_source None (Some other) = false
same_source (Some source) None = false
same_source (Some source) (Some other) = bytes_eq source other

-- the period that starts on a day has the target source
abbrev pub same_period : BothSources → ℕ → Bool
same_period both d = same_source (period_source both.current d) (period_source both.target d)

-- the listed Easter of a year has
abbrev pub same_easter : BothSources → ℕ → Bool
same_easter both y = same_source (easter_source both.current y) (easter_source both.target y)
