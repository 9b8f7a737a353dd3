-- Lines from which no source is taken leave an object without sources.
use Rattle.std.specs.Prelude.{◌≡◌, false, ◌++◌, None}
use Rattle.std.specs.List.{All}
use Rattle.osn_core.specs.Sequential.{ObjectState, joined}
use Rattle.osn_register.specs.Lawful.{source_given}
use Rattle.osn_service.specs.declared.rules.ServeRules.{ServeRules}

-- no edit of an object gives a source
abbrev pub GivesNoSource : ObjectState → Type 0
GivesNoSource s = All (λ e. source_given e ≡ None) (joined s.batches ++ s.pending)

-- If the rules take no source, and no edit of the object s gives one, none of t does.
abbrev pub KeepsSourceless : ServeRules → ObjectState → ObjectState → Type 0
KeepsSourceless rules s t = rules.takes_sources ≡ false → GivesNoSource s → GivesNoSource t
