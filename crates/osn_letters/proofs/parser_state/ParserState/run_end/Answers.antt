use Rattle.osn_letters.proofs.RunFacts.{ends_in_field, ends_in_quotes}
use Rattle.osn_letters.proofs.parser_state.ParserState.run_end.Goals as goal

pub returns-in-InField : goal.returns-in-InField
returns-in-InField c = rw (c.in-InField.is, c.byte.ensures) (ends_in_field c.args.separator)

pub returns-in-InQuoted : goal.returns-in-InQuoted
returns-in-InQuoted c = rw c.in-InQuoted.is (ends_in_quotes c.args.separator)
