use Rattle.std.proofs.Common.{◌∙◌, None, inl, inr, refl, sym, subst}
use Rattle.std.proofs.lemmas.Result.{IfErr-weaker, on_ok_weaker}
use Rattle.osn_serve_commands.specs.Keep.{IsChangeFault}
use Rattle.osn_serve_commands.proofs.ResultLemmas.{if_err_made}
use Rattle.osn_serve_commands.proofs.keep.make_ready.Goals as goal

pub returns-in_err-cut_unfinished-clause-err : goal.returns-in_err-cut_unfinished-clause-err
returns-in_err-cut_unfinished-clause-err g c =
    let h = c.in_err-cut_unfinished.ensures.err in
    if_err_made c.from_residual.result c.from_residual.ensures.1
    (λ e is. (
      subst (λ f. IsChangeFault f (g.K.KeptFile.fault c.cut_unfinished.new.keeper)) (sym is) h.0,
      None,
      h.1,
      (λ content known whole. inl (refl, h.2 ∙ known)),
    ))

pub returns-clause-ok : goal.returns-clause-ok
returns-clause-ok g c =
    let cut = c.in_ok-cut_unfinished.ensures.ok in
    on_ok_weaker c.append_missing.result
    (λ h. (
      cut.0,
      cut.1,
      (λ content known whole.
          let is = cut.2 content known whole in
          let text = h content is.1 whole in
          (is.0, text.0, text.1)),
    ))
    c.append_missing.ensures.ok

pub returns-clause-err : goal.returns-clause-err
returns-clause-err g c =
    let cut = c.in_ok-cut_unfinished.ensures.ok in
    IfErr-weaker c.append_missing.result _ _
    (λ fault h. (
      h.0,
      cut.0,
      cut.1,
      (λ content known whole.
          let is = cut.2 content known whole in
          let text = h.1 content is.1 whole in
          inr (is.0, text.0, text.1)),
    ))
    c.append_missing.ensures.err
