use Rattle.std.proofs.Common.{sym}
use Rattle.clap.specs.Words.{found_of, rows_of}
use Rattle.osn_invocation.proofs.NameLemmas.{is_named}
use Rattle.osn_invocation.proofs.invocation.command_or_serve.Goals as goal

pub returns-in-None-clause-named : goal.returns-in-None-clause-named
returns-in-None-clause-named c = λ has.
    absurd (is_named c.args.name.now (rows_of (found_of c.args.matches.now)) has
    (sym c.in-None.ensures))
