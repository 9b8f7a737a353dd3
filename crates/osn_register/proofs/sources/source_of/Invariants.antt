use Rattle.std.proofs.Common.{◌≡◌, drop}
use Rattle.osn_register.specs.Sources.{source_of}
use Rattle.osn_register.proofs.sources.source_of.Given as goal

-- none of those so far is of the number
abbrev pub invariant-loop-entry : goal.invariant-loop-entry
invariant-loop-entry l =
    source_of l.number (drop l.entry-index l.sources) ≡ source_of l.number l.sources
