use Rattle.std.proofs.Common.{◌≡◌, ◌==◌, true, None, Some, inl, inr, refl, sym, ap, length, ◌∙◌}
use Rattle.std.proofs.lemmas.Result.{IfErr-weaker, IfOk-weaker}
use Rattle.osn_commands.proofs.PlanLemmas.{same_plan}
use Rattle.osn_commands.proofs.PublishLemmas.{reports_later, none_pending, reports_pending}
use Rattle.osn_commands.proofs.PublishLemmas.{planned, same_fault}
use Rattle.osn_commands.specs.PlanWords.{pending_line}
use Rattle.osn_commands.specs.PublishInside.{CanStay}
use Rattle.osn_commands.specs.Since.{later_lines, later_than, request_of}
use Rattle.osn_commands.proofs.publish.publish_held.Goals as goal

pub returns-then-not-is_empty-clause-ok : goal.returns-then-not-is_empty-clause-ok
returns-then-not-is_empty-clause-ok g c = λ input part_of.
    let s = c.args.journal.object in
    reports_pending (CanStay g.K.KeptFile.cut_back_may_fail) (request_of c.args.request)
    c.args.journal.version s c.args.target.now _ _ input _ _ c.report_line.result s.pending
    (ap (λ l. length l == 0) (sym c.pending.ensures)
    ∙ (sym c.is_empty.ensures ∙ c.if-not-is_empty.true)) (
      refl,
      refl,
      c.report_line.ensures (pending_line (length s.pending))
          (IfOk-weaker c.pending_line-line.result _ _
          (λ line is. is
          ∙ ap (λ l. pending_line (length l)) c.pending-then-not-is_empty.ensures)
          c.pending_line-line.ensures),
    )

pub returns-in-Some-clause-ok : goal.returns-in-Some-clause-ok
returns-in-Some-clause-ok g c = λ input part_of.
    let s = c.args.journal.object in
    let request = request_of c.args.request in
    let none : (length s.pending == 0) ≡ true =
    ap (λ l. length l == 0) (sym c.pending.ensures)
    ∙ (sym c.is_empty.ensures ∙ c.if-not-is_empty.false) in
    let size : length s.batches ≡ length c.batches-editions.result.now =
    ap length (sym c.batches-editions.ensures.value) in
    let late : later_than request.edition (length s.batches) ≡ Some c.in-Some.edition = cc in
    reports_later (CanStay g.K.KeptFile.cut_back_may_fail) request
    c.args.journal.version s c.args.target.now _ _ input _ _ c.report_line-in-Some.result s.pending
    c.in-Some.edition none late (
      refl,
      refl,
      c.report_line-in-Some.ensures
          (later_lines request.text request.journal c.in-Some.edition (length s.batches))
          (rw size c.later_lines-lines.ensures),
    )

pub returns-in-Ok-clause-ok : goal.returns-in-Ok-clause-ok
returns-in-Ok-clause-ok g c =
    let s = c.args.journal.object in
    let request = request_of c.args.request in
    let none : (length s.pending == 0) ≡ true =
    ap (λ l. length l == 0) (sym c.pending.ensures)
    ∙ (sym c.is_empty.ensures ∙ c.if-not-is_empty.false) in
    let had : later_than request.edition (length s.batches) ≡ None = cc in
    IfOk-weaker c.publish_unless_behind.result _ _
    (λ status h input part_of.
    planned (CanStay g.K.KeptFile.cut_back_may_fail) request c.args.journal.version s
    c.args.target.now _ _ input _ _ status s.pending none had (inr (
      c.in-Ok.edits.items,
      same_plan s _ _ c.args.target.now.territories _ _ c.register.ensures.limits
          c.register.ensures.territories refl c.in-Ok.ensures.ok,
      h input part_of,
    ))) c.publish_unless_behind.ensures.ok

pub returns-in-Ok-clause-older : goal.returns-in-Ok-clause-older
returns-in-Ok-clause-older g c =
    let s = c.args.journal.object in
    let had : later_than c.args.request.edition (length s.batches) ≡ None = cc in
    IfErr-weaker c.publish_unless_behind.result _ _
    (λ older h. record {
      pending =
          none_pending s.pending (ap (λ l. length l == 0) (sym c.pending.ensures)
          ∙ (sym c.is_empty.ensures ∙ c.if-not-is_empty.false));
      had = had;
      edits = c.in-Ok.edits.items;
      plans =
          same_plan s _ _ c.args.target.now.territories _ _ c.register.ensures.limits
          c.register.ensures.territories refl c.in-Ok.ensures.ok;
      free = h.0;
      older = h.1;
    }) c.publish_unless_behind.ensures.older

pub publish_unless_behind-requires-clause-pending :
    goal.publish_unless_behind-requires-clause-pending
publish_unless_behind-requires-clause-pending g c =
    none_pending c.args.journal.object.pending
    (ap (λ l. length l == 0) (sym c.pending.ensures)
    ∙ (sym c.is_empty.ensures ∙ c.if-not-is_empty.false))

pub returns-in-Err-clause-ok : goal.returns-in-Err-clause-ok
returns-in-Err-clause-ok g c = λ input part_of.
    let s = c.args.journal.object in
    let request = request_of c.args.request in
    let none : (length s.pending == 0) ≡ true =
    ap (λ l. length l == 0) (sym c.pending.ensures)
    ∙ (sym c.is_empty.ensures ∙ c.if-not-is_empty.false) in
    let had : later_than request.edition (length s.batches) ≡ None = cc in
    planned (CanStay g.K.KeptFile.cut_back_may_fail) request c.args.journal.version s
    c.args.target.now _ _ input _ _ c.report_plan_fault.result s.pending none had (inl (
      refl,
      (
        c.in-Err.fault,
        same_fault s _ _ c.args.target.now.territories c.in-Err.fault c.register.ensures.limits
            c.register.ensures.territories c.in-Err.ensures.err,
        refl,
        c.report_plan_fault.ensures,
      ),
    ))
