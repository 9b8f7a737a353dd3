-- The sources of a territory after changes in turn, and changes that each find the source that was
-- present at first.
use Rattle.std.proofs.Common.{◌≡◌, List, [], ◌∷◌, ◌++◌, Some, refl}
use Rattle.osn_register.specs.Sources.{SourcesModel, source_of}
use Rattle.osn_register_text.specs.Change.{Change, sources_after}
use Rattle.osn_register_text.specs.Change.Change.{Add, Alter, Drop, ListDay, DropDay}
use Rattle.osn_register_text.specs.CitedSources.{BothSources}

-- the present sources, and the target ones
abbrev pub pair_of : SourcesModel → SourcesModel → BothSources
pair_of old new = record { current = Some old; target = Some new }

-- the sources after changes in turn
abbrev pub cited_after : List Change → SourcesModel → SourcesModel
cited_after [] s = s
cited_after (e ∷ es) s = cited_after es (sources_after e s)

-- the source that the change alters or drops is still the one from before
abbrev pub IsFresh : SourcesModel → SourcesModel → Change → Type 0
IsFresh old s (Add d r c) = Unit {0}
IsFresh old s (Alter d r c) = source_of d s.periods ≡ source_of d old.periods
IsFresh old s (Drop d) = Unit {0}
IsFresh old s (ListDay y d c) = Unit {0}
IsFresh old s (DropDay y) = source_of y s.easters ≡ source_of y old.easters

-- each is, in its turn
abbrev pub AreFresh : SourcesModel → SourcesModel → List Change → Type 0
AreFresh old s [] = Unit {0}
AreFresh old s (e ∷ es) = IsFresh old s e × AreFresh old (sources_after e s) es

pub cited_after-append : (es fs : List Change) (s : SourcesModel) →
    cited_after (es ++ fs) s ≡ cited_after fs (cited_after es s)
cited_after-append [] fs s = refl
cited_after-append (e ∷ es) fs s = cited_after-append es fs (sources_after e s)

pub AreFresh-append : (old s : SourcesModel) (es fs : List Change) → AreFresh old s es →
    AreFresh old (cited_after es s) fs → AreFresh old s (es ++ fs)
AreFresh-append old s [] fs fresh later = later
AreFresh-append old s (e ∷ es) fs fresh later =
    (fresh.0, AreFresh-append old (sources_after e s) es fs fresh.1 later)
