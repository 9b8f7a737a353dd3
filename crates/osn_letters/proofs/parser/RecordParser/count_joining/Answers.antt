use Rattle.std.proofs.Common.{take, rules}
use Rattle.std.proofs.lemmas.List.{length-take-le}
use Rattle.osn_letters.specs.RecordsInside.{reading_of}
use Rattle.osn_letters.proofs.RunFacts.{run_joins, none_joins}
use Rattle.osn_letters.proofs.parser.RecordParser.count_joining.Goals as goal

pub returns-in_default-clause-joins : goal.returns-in_default-clause-joins
returns-in_default-clause-joins c = none_joins (reading_of c.args.self.now)

pub returns-in_default-2-clause-joins : goal.returns-in_default-2-clause-joins
returns-in_default-2-clause-joins c = none_joins (reading_of c.args.self.now)

pub returns-in_default-run_end-clause-joins : goal.returns-in_default-run_end-clause-joins
returns-in_default-run_end-clause-joins c = none_joins (reading_of c.args.self.now)

pub returns-clause-joins : goal.returns-clause-joins
returns-clause-joins c =
    run_joins (take c.run_len.result c.args.bytes.now) (reading_of c.args.self.now)
    c.in-Some-false.separator c.in-Some.end (search rules) (search rules) (search rules)
    c.run_len.ensures.joins (search (rules, length-take-le))
