use Rattle.std.proofs.Common.{◌≡◌, drop}
use Rattle.std.specs.List.{list_all}
use Rattle.osn_grammar.specs.Tokens.{is_roman}
use Rattle.osn_grammar.proofs.token.are_roman.Given as goal

-- what is left decides
abbrev pub invariant-loop-byte : goal.invariant-loop-byte
invariant-loop-byte l = list_all is_roman l.word ≡ list_all is_roman (drop l.byte-index l.word)
