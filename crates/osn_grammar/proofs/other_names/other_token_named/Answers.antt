use Rattle.osn_grammar.specs.Names.{other_names}
use Rattle.osn_grammar.proofs.other_names.other_token_named.Goals as goal

pub returns : goal.returns
unfolding other_names
returns c = c.first_named.ensures
