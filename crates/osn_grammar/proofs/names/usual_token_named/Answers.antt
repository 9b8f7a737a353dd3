use Rattle.osn_grammar.specs.Names.{names}
use Rattle.osn_grammar.proofs.names.usual_token_named.Goals as goal

pub returns : goal.returns
unfolding names
returns c = c.first_named.ensures
