use Rattle.std.proofs.Common.{inr, refl, rules}
use Rattle.osn_commands.proofs.display.report_no_words.Goals as goal

pub returns : goal.returns
returns g c = inr (search rules, (refl, c.write_line.ensures))
