use Rattle.std.proofs.Common.{◌≡◌, map, drop, ◌++◌, Ok}
use Rattle.osn_grammar.specs.Reading.{all_members}
use Rattle.osn_grammar.specs.Simple.{◌>>=◌}
use Rattle.osn_grammar.proofs.set.all_members.Given as goal

-- the members so far come before those of what is left
abbrev pub invariant-loop-text : goal.invariant-loop-text
invariant-loop-text l =
    all_members (map (λ text. text.now) l.texts)
    ≡ (all_members (map (λ text. text.now) (drop l.text-index l.texts))
    >>= (λ ws. Ok (l.members.items ++ ws)))
