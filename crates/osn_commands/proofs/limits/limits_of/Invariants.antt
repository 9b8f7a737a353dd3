use Rattle.std.proofs.Common.{◌≡◌, length}
use denote.Text.{Utf8}
use denote.Shadow.{shadow}
use Rattle.osn_register.specs.Limits.{standard_limits}
use Rattle.osn_commands.specs.Limits.{settings, with_settings}
use Rattle.osn_commands.proofs.limits.limits_of.Given as goal

-- the limits so far, with what is left to set, are those of all settings
abbrev pub invariant-loop-first : goal.invariant-loop-first
invariant-loop-first l = shadow (Utf8 l.rest)
    × (with_settings standard_limits (settings l.fn.text)
    ≡ with_settings l.limits (settings l.rest))

abbrev pub decreases-loop-first : goal.decreases-loop-first
decreases-loop-first l = length l.rest
