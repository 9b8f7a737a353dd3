use Rattle.osn_grammar.specs.Names.{more_names}
use Rattle.osn_grammar.proofs.more_names.more_token_named.Goals as goal

pub returns : goal.returns
unfolding more_names
returns c = c.first_named.ensures
