use Rattle.std.proofs.Common.{rules}
use Rattle.osn_request.specs.EditRequest.{add_change_of}
use Rattle.osn_request.proofs.request.edit.add_change_of.Goals as goal

pub returns : goal.returns
unfolding add_change_of
returns c = search rules
