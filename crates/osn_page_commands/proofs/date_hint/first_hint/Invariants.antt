use Rattle.std.proofs.Common.{◌≡◌, length}
use denote.Text.{Utf8}
use denote.Shadow.{shadow}
use Rattle.osn_page_commands.specs.DateHint.{first_hint}
use Rattle.osn_page_commands.specs.Pieces.{pieces}
use Rattle.osn_page_commands.proofs.date_hint.first_hint.Given as goal

-- what is left decides
abbrev pub invariant-loop-word : goal.invariant-loop-word
invariant-loop-word l = shadow (Utf8 l.rest)
    × (first_hint (pieces 32 l.fn.text) ≡ first_hint (pieces 32 l.rest))

abbrev pub decreases-loop-word : goal.decreases-loop-word
decreases-loop-word l = length l.rest
