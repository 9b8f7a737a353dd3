use Rattle.std.proofs.Common.{◌∙◌}
use Rattle.osn_commands.proofs.LimitsLemmas.{number_parsed}
use Rattle.osn_commands.proofs.limits.number_of.Goals as goal

pub returns : goal.returns
returns c =
    c.ok.ensures.value ∙ number_parsed c.args.text.now c.parse.result c.parse.ensures.value.0
