use Rattle.std.proofs.Common.{◌≡◌, take}
use Rattle.osn_register.proofs.sources.copy_sources.Given as goal

-- those so far
abbrev pub invariant-loop-entry : goal.invariant-loop-entry
invariant-loop-entry l = l.copied.items ≡ take l.entry-index l.sources
