use Rattle.std.proofs.lemmas.Result.{on_ok_weaker}
use Rattle.osn_invocation.proofs.RowLemmas.{grammar_written}
use Rattle.osn_invocation.proofs.rows.push_grammar.Goals as goal

pub returns : goal.returns
returns c =
    on_ok_weaker c.push_commands.result
    (grammar_written _ _ _ c.args.grammar.now c.get_name.result c.get_arguments.result.now
    c.get_subcommands.result.now c.get_name.ensures c.get_arguments.ensures
    c.get_subcommands.ensures c.in_ok-push_rows.ensures)
    c.push_commands.ensures
