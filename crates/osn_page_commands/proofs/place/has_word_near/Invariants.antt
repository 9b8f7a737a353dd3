use Rattle.std.proofs.Common.{◌≡◌, length}
use denote.Text.{Utf8}
use denote.Shadow.{shadow}
use Rattle.osn_page_commands.specs.Place.{has_word_near}
use Rattle.osn_page_commands.proofs.place.has_word_near.Given as goal

-- what is left decides
abbrev pub invariant-loop-part : goal.invariant-loop-part
invariant-loop-part l = shadow (Utf8 l.rest)
    × (has_word_near l.fn.word l.fn.name ≡ has_word_near l.fn.word l.rest)

abbrev pub decreases-loop-part : goal.decreases-loop-part
decreases-loop-part l = length l.rest
