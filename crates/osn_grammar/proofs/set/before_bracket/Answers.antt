use Rattle.std.proofs.Common.{arith}
use Rattle.std.proofs.lemmas.Str.Pattern.{strip_suffix_char}
use Rattle.osn_grammar.proofs.SetFacts.{last_stripped}
use Rattle.osn_grammar.proofs.set.before_bracket.Goals as goal

pub returns : goal.returns
returns c = last_stripped 93 c.args.text.now c.strip_suffix.result
    (strip_suffix_char 93 c.args.text.now c.strip_suffix.result c.strip_suffix.ensures.cases
    (omega arith))
