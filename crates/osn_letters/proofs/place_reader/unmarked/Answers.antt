use Rattle.std.proofs.Common.{◌∙◌}
use Rattle.osn_letters.proofs.BomFacts.{is_marked, is_unmarked}
use Rattle.osn_letters.proofs.place_reader.unmarked.Goals as goal

pub returns-in-Some : goal.returns-in-Some
returns-in-Some c =
    c.in-Some.ensures.cases.1 ∙ is_marked c.args.text.now c.in-Some.ensures.cases.0

pub returns-in-None : goal.returns-in-None
returns-in-None c = is_unmarked c.args.text.now c.in-None.ensures.cases
