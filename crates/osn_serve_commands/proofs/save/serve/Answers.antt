use Rattle.std.proofs.Common.{inl, inr, ap, refl, sym, subst, option_map, ◌∙◌}
use Rattle.osn_folder.specs.Folder.{MayFail}
use Rattle.osn_lines.specs.Streams.{input_of, output_of}
use Rattle.osn_serve_commands.specs.Save.{LocksIf}
use Rattle.osn_serve_commands.specs.Serve.{input_if}
use Rattle.osn_serve_commands.proofs.ResultLemmas.{if_err_made}
use Rattle.osn_serve_commands.proofs.SaveLemmas.{given_if, may_fail_if, not_opened}
use Rattle.osn_serve_commands.proofs.SaveLemmas.{replaced_open_failure}
use Rattle.osn_serve_commands.proofs.SaveLemmas.{replacing_ran, service_ran}
use Rattle.osn_serve_commands.proofs.TargetLemmas.{saved_over, target_refused}
use Rattle.osn_serve_commands.proofs.save.serve.Goals as goal

pub returns-in_ok-file-in-Some-clause-ok : goal.returns-in_ok-file-in-Some-clause-ok
returns-in_ok-file-in-Some-clause-ok g c =
    let found = c.in_ok-file-in-Some in
    let left = c.serve_replacing.new.journal in
    inr (
      g.D.Folder.known c.lock_if.new.folder,
      subst (λ path. LocksIf path (g.D.Folder.known c.args.folder.now)
          (g.D.Folder.known c.lock_if.new.folder)) c.in-Ok.ensures.path c.in-Ok.ensures.ok,
      replacing_ran c.args.limits _ _ c.args.rules (MayFail g.D.File.Source.has_failed) _ _ _ _ _
          _ _ _ c.path_or_none.ensures c.in-Ok.ensures.path c.in-Some.path.now
          (input_of g.D.File.Source.remaining g.D.File.Source.has_failed found.file left)
          (sym c.replaced_path.ensures ∙ ap (option_map (λ path. path.now)) c.in-Some.is)
          found.ensures.file (λ yes. (left, yes)) (λ yes. absurd (cc)) found.ensures.ok
          found.ensures.crash c.serve_replacing.ensures,
    )

pub returns-in-Ok-target_if-clause-ok : goal.returns-in-Ok-target_if-clause-ok
returns-in-Ok-target_if-clause-ok g c =
    let found = c.in_ok-source-in-None in
    let file = g.D.File.Source in
    let left = c.serve_opened.new.journal in
    inr (
      g.D.Folder.known c.lock_if.new.folder,
      subst (λ path. LocksIf path (g.D.Folder.known c.args.folder.now)
          (g.D.Folder.known c.lock_if.new.folder)) c.in-Ok.ensures.path c.in-Ok.ensures.ok,
      service_ran c.args.limits _ _ c.args.rules (MayFail file.has_failed) _ _ _ _ _ _
          (input_if file.remaining file.has_failed found.source left)
          (sym c.replaced_path.ensures ∙ ap (option_map (λ path. path.now)) c.in-None.is)
          (given_if file.remaining file.has_failed _ _ found.source left found.ensures.file)
          (may_fail_if file.remaining file.has_failed found.source left) found.ensures.ok
          found.ensures.crash
          (saved_over c.args.limits _ _ _ _ c.args.rules _ _
          (g.D.Folder.known c.target_if.new.folder) _ _ _ _ _ c.in-Ok-target_if.target _ _
          c.path_or_none-in-None.ensures c.in-Ok.ensures.path c.in-Ok-target_if.ensures.ok
          c.target_if.ensures.crash c.bytes_of.ensures c.is_left_beside.ensures
          c.serve_opened.ensures),
    )

pub returns-in-Err-target_if-clause-ok : goal.returns-in-Err-target_if-clause-ok
returns-in-Err-target_if-clause-ok g c =
    let found = c.in_ok-source-in-None in
    let file = g.D.File.Source in
    let w = g.W.Sink in
    let o = output_of w.contents w.has_failed w.holds_back c.args.output.now c.args.output.now in
    inr (
      g.D.Folder.known c.lock_if.new.folder,
      subst (λ path. LocksIf path (g.D.Folder.known c.args.folder.now)
          (g.D.Folder.known c.lock_if.new.folder)) c.in-Ok.ensures.path c.in-Ok.ensures.ok,
      service_ran c.args.limits _ _ c.args.rules (MayFail file.has_failed) _ _ _ _ _ _
          (input_if file.remaining file.has_failed found.source found.source)
          (sym c.replaced_path.ensures ∙ ap (option_map (λ path. path.now)) c.in-None.is)
          (given_if file.remaining file.has_failed _ _ found.source found.source
          found.ensures.file)
          (may_fail_if file.remaining file.has_failed found.source found.source) found.ensures.ok
          found.ensures.crash
          (inl (target_refused c.args.limits _ _ _ o _ _ _ c.in-Err-target_if.fault
          c.path_or_none-in-Err-target_if.ensures c.in-Err-target_if.ensures.err refl
          c.report_target.ensures)),
    )

pub returns-in_err-file-in-Some-clause-err : goal.returns-in_err-file-in-Some-clause-err
returns-in_err-file-in-Some-clause-err g c =
    let why = c.in_err-file-in-Some.field-0.0 in
    if_err_made c.from_residual.result c.from_residual.ensures.1
    (λ e is. (
      replaced_open_failure _ _ _ c.in-Some.path.now e.path.now why.path.now e.fault why.cause _ _ _
          (sym c.replaced_path.ensures ∙ ap (option_map (λ path. path.now)) c.in-Some.is)
          c.in-Ok.ensures.ok is c.in_err-file-in-Some.ensures.err,
      refl,
      refl,
    ))

pub returns-in_err-source-in-None-clause-err : goal.returns-in_err-source-in-None-clause-err
returns-in_err-source-in-None-clause-err g c =
    let why = c.in_err-source-in-None.field-0.0 in
    if_err_made c.from_residual-in_err-source-in-None.result
    c.from_residual-in_err-source-in-None.ensures.1
    (λ e is. (
      not_opened _ _ e.path.now why.path.now e.fault why.cause _ _ _ c.in-Ok.ensures.ok is
          c.in_err-source-in-None.ensures.err,
      refl,
      refl,
    ))
