use Rattle.std.proofs.Common.{arith}
use Rattle.std.proofs.lemmas.Str.Pattern.{strip_prefix_char}
use Rattle.osn_grammar.proofs.SetFacts.{first_stripped}
use Rattle.osn_grammar.proofs.set.after_bracket.Goals as goal

pub returns : goal.returns
returns c = first_stripped 91 c.args.text.now c.strip_prefix.result
    (strip_prefix_char 91 c.args.text.now c.strip_prefix.result c.strip_prefix.ensures.cases
    (omega arith))
