use Rattle.std.proofs.Common.{◌∙◌, inl, inr, refl}
use Rattle.osn_serve_commands.proofs.ResultLemmas.{if_err_made}
use Rattle.osn_serve_commands.proofs.KeptFileLemmas.{completed, completed_in_part}
use Rattle.osn_serve_commands.proofs.KeptFileLemmas.{completed_by_none}
use Rattle.osn_serve_commands.proofs.KeptFileLemmas.{completed_by_all}
use Rattle.osn_serve_commands.proofs.keep.append_missing.Goals as goal

pub returns-in_err-text-clause-err : goal.returns-in_err-text-clause-err
returns-in_err-text-clause-err g c =
    if_err_made c.from_residual.result c.from_residual.ensures.1
    (λ e is. (inr is, λ content known whole. completed_by_none content _ _ known refl))

pub returns-in_err-append-clause-err : goal.returns-in_err-append-clause-err
returns-in_err-append-clause-err g c =
    let part = c.in_err-append.ensures.err in
    if_err_made c.from_residual-in_err-append.result c.from_residual-in_err-append.ensures.1
    (λ e is. (
      inl (_, c.in_err-append.ensures.fault, is),
      λ content known whole. completed_in_part content c.deref.result.now _ _ part.0
          (c.deref.ensures.value ∙ c.in_ok-text.ensures content whole) known part.1,
    ))

pub returns-in_err-sync-clause-err : goal.returns-in_err-sync-clause-err
returns-in_err-sync-clause-err g c =
    if_err_made c.from_residual-in_err-sync.result c.from_residual-in_err-sync.ensures.1
    (λ e is. (
      inl (_, c.in_err-sync.ensures.fault, is),
      λ content known whole. completed_by_all content _ (c.in_err-sync.ensures.same
          ∙ completed content c.deref.result.now _ _
          (c.deref.ensures.value ∙ c.in_ok-text.ensures content whole) known
          c.in_ok-append.ensures.ok),
    ))

pub returns-clause-ok : goal.returns-clause-ok
returns-clause-ok g c = λ content known whole.
    let is =
    c.in_ok-sync.ensures.same
    ∙ completed content c.deref.result.now _ _
    (c.deref.ensures.value ∙ c.in_ok-text.ensures content whole) known c.in_ok-append.ensures.ok in
    (is, c.in_ok-sync.ensures.ok ∙ is)
