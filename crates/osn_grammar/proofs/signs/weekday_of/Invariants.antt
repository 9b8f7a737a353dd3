use Rattle.std.proofs.Common.{◌≡◌, None, drop}
use Rattle.osn_grammar.specs.Reading.{weekday_after}
use Rattle.osn_grammar.proofs.signs.weekday_of.Given as goal

-- what was found before what is left decides with it
abbrev pub invariant-loop-token : goal.invariant-loop-token
invariant-loop-token l =
    weekday_after None l.tokens ≡ weekday_after l.weekday (drop l.token-index l.tokens)
