use Rattle.std.proofs.Common.{rules}
use Rattle.osn_register.proofs.text.Text.from_str.Goals as goal

pub returns : goal.returns
returns c = search rules
