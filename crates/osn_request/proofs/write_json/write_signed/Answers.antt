use Rattle.std.proofs.Common.{arith}
use Rattle.std.proofs.lemmas.Grind.{common_steps}
use Rattle.osn_request.proofs.write_json.write_signed.Goals as goal

pub returns-clause-tokens : goal.returns-clause-tokens
returns-clause-tokens c = grind (arith, common_steps)
