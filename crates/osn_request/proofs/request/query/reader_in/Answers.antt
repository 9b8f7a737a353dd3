use Rattle.std.proofs.Common.{rules}
use Rattle.osn_request.proofs.request.query.reader_in.Goals as goal

pub returns-clause-reader : goal.returns-clause-reader
returns-clause-reader c = search rules

pub returns-clause-among : goal.returns-clause-among
returns-clause-among c = search rules
