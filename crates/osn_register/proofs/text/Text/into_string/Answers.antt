use Rattle.std.proofs.Common.{rules}
use Rattle.osn_register.proofs.text.Text.into_string.Goals as goal

pub returns : goal.returns
returns c = search rules
