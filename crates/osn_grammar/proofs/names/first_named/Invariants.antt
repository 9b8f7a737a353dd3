use Rattle.std.proofs.Common.{◌≡◌, drop}
use Rattle.osn_grammar.specs.Names.{first_named, plain}
use Rattle.osn_grammar.proofs.names.first_named.Given as goal

-- what is left decides
abbrev pub invariant-loop-entry : goal.invariant-loop-entry
invariant-loop-entry l =
    first_named (plain l.names) l.word ≡ first_named (plain (drop l.entry-index l.names)) l.word
