use Rattle.std.proofs.Common.{rules}
use Rattle.osn_register.proofs.text.Text.as_str.Goals as goal

pub returns-clause-value : goal.returns-clause-value
returns-clause-value c = search rules

pub returns-clause-utf8 : goal.returns-clause-utf8
returns-clause-utf8 c = search rules
