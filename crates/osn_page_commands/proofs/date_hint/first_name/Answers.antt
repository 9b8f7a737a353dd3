use Rattle.osn_page_commands.specs.DateHint.{date_names}
use Rattle.osn_page_commands.proofs.date_hint.first_name.Goals as goal

pub returns : goal.returns
unfolding date_names
returns c = c.first_near.ensures
