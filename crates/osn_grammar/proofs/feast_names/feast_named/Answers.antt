use Rattle.osn_grammar.specs.Names.{feast_names}
use Rattle.osn_grammar.proofs.feast_names.feast_named.Goals as goal

pub returns : goal.returns
unfolding feast_names
returns c = c.first_named.ensures
