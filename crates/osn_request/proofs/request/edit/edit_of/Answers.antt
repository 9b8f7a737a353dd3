use Rattle.std.proofs.Common.{rules}
use Rattle.osn_request.proofs.request.edit.edit_of.Goals as goal

pub returns-in-AddChange : goal.returns-in-AddChange
returns-in-AddChange c = search rules
