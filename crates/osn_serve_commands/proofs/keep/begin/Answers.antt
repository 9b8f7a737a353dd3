use Rattle.std.proofs.Common.{None, inl, inr, refl, sym, subst, ◌∙◌}
use Rattle.osn_serve_commands.specs.Keep.{HoldsNoObject, IsChangeFault}
use Rattle.osn_serve_commands.proofs.KeepLemmas.{held_as_read, is_ready}
use Rattle.osn_serve_commands.proofs.ResultLemmas.{if_err_made, known_bytes}
use Rattle.osn_serve_commands.proofs.keep.begin.Goals as goal

pub returns-in_err-loaded_journal-clause-err : goal.returns-in_err-loaded_journal-clause-err
returns-in_err-loaded_journal-clause-err g c =
    let failed = g.J.Source.has_failed c.read_journal_to_keep.new.journal in
    let fault = c.in_err-loaded_journal.field-0.0 in
    if_err_made c.from_residual.result c.from_residual.ensures.1
    (λ e is. (
      None,
      refl,
      (λ content known input. inl (
        inl (subst (HoldsNoObject c.args.limits content failed) (sym is)
            (known_bytes _ content (λ bytes. HoldsNoObject c.args.limits bytes failed fault) input
            c.in_err-loaded_journal.ensures.err)),
        refl,
        known,
      )),
    ))

pub returns-in_err-check_version_to_keep-clause-err :
    goal.returns-in_err-check_version_to_keep-clause-err
returns-in_err-check_version_to_keep-clause-err g c =
    let older = c.in_err-check_version_to_keep.ensures.err in
    let read = c.in_ok-loaded_journal in
    if_err_made c.from_residual-in_err-check_version_to_keep.result
    c.from_residual-in_err-check_version_to_keep.ensures.1
    (λ e is. (
      None,
      refl,
      (λ content known input. inl (
        inr (
          read.loaded_journal.version,
          is ∙ older.0,
          older.1,
          read.loaded_journal.object,
          (held_as_read c.args.limits _ content _ read.loaded_journal.part
              read.loaded_journal.version read.loaded_journal.object
              input read.ensures.bytes read.ensures.ok).1,
        ),
        refl,
        known,
      )),
    ))

pub returns-in_err-make_ready-clause-err : goal.returns-in_err-make_ready-clause-err
returns-in_err-make_ready-clause-err g c =
    let h = c.in_err-make_ready.ensures.err in
    let read = c.in_ok-loaded_journal in
    if_err_made c.from_residual-in_err-make_ready.result
    c.from_residual-in_err-make_ready.ensures.1
    (λ e is. (
      h.1,
      h.2,
      (λ content known input.
          let whole = held_as_read c.args.limits _ content _ read.loaded_journal.part
          read.loaded_journal.version
          read.loaded_journal.object input read.ensures.bytes read.ensures.ok in
          inr (
            subst (λ f. IsChangeFault f (g.K.KeptFile.fault c.make_ready.new.keeper)) (sym is)
                h.0,
            h.3 content known whole.0,
            read.loaded_journal.version,
            read.loaded_journal.object,
            whole.1,
          )),
    ))

pub returns-clause-ok : goal.returns-clause-ok
returns-clause-ok g c =
    let r = c.in_ok-make_ready.ensures.ok in
    let read = c.in_ok-loaded_journal in (
      r.0,
      r.1,
      (λ content known input.
          let whole = held_as_read c.args.limits _ content _ read.loaded_journal.part
          read.loaded_journal.version
          read.loaded_journal.object input read.ensures.bytes read.ensures.ok in
          let ready = r.2 content known whole.0 in (
            whole.1,
            c.in_ok-check_version_to_keep.ensures.ok,
            ready.0,
            is_ready _ _ _ _ _ _ ready.1 ready.2 c.in_ok-make_ready.ensures.sound,
          )),
    )
