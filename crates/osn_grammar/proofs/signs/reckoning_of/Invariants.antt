use Rattle.std.proofs.Common.{◌≡◌, None, drop}
use Rattle.osn_grammar.specs.Reading.{reckoning_after}
use Rattle.osn_grammar.proofs.signs.reckoning_of.Given as goal

-- what was found before what is left decides with it
abbrev pub invariant-loop-token : goal.invariant-loop-token
invariant-loop-token l =
    reckoning_after None l.tokens ≡ reckoning_after l.reckoning (drop l.token-index l.tokens)
