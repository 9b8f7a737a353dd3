use Rattle.std.proofs.Common.{◌∙◌, ap, subst, map}
use Rattle.std.proofs.lemmas.Result.{IfErr-weaker, IfOk-weaker}
use Rattle.clap.specs.Words.{App, FailsBy, fault_of, is_simple, is_simple_and_free, matches_of}
use Rattle.clap.specs.Words.{subcommand_of, takes}
use Rattle.osn_invocation.proofs.GrammarLemmas.{is_checked, is_exact}
use Rattle.osn_invocation.proofs.invocation.matches_in.Goals as goal

pub returns-clause-ok : goal.returns-clause-ok
returns-clause-ok g c =
    let parse = c.try_get_matches_from in
    let is = c.in_ok-command_line.ensures.0 in
    let args = map g.S.AsStr.text c.args.args.now in
    IfOk-weaker parse.result _ _ (λ m h. let found = h (ap is_simple is ∙ is_exact) in (
      found.0 ∙ ap (λ (a : App). matches_of a args) is,
      found.1 ∙ ap (λ (a : App). subcommand_of a args) is,
    )) parse.ensures.matches

pub returns-clause-err : goal.returns-clause-err
returns-clause-err g c =
    let parse = c.try_get_matches_from in
    let is = c.in_ok-command_line.ensures.0 in
    let args = map g.S.AsStr.text c.args.args.now in
    IfErr-weaker parse.result _ _
    (λ e h taken. h (ap (λ (a : App). takes a args) is ∙ taken)) parse.ensures.passes

pub returns-clause-kinds : goal.returns-clause-kinds
returns-clause-kinds g c =
    let parse = c.try_get_matches_from in
    let is = c.in_ok-command_line.ensures.0 in
    let args = map g.S.AsStr.text c.args.args.now in
    subst (λ (a : App). FailsBy (fault_of a args) parse.result) is
    (parse.ensures.kinds (ap is_simple_and_free is ∙ is_checked))
