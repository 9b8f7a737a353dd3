use Rattle.std.proofs.Common.{◌≡◌, false, subst}
use Rattle.osn_lines.specs.Whole.{WhyNotRead}
use Rattle.osn_serve_commands.specs.Keep.{IsUnread}
use Rattle.osn_serve_commands.proofs.ResultLemmas.{if_err_made, any_bytes, known_bytes}
use Rattle.osn_serve_commands.proofs.KeepLemmas.{none_held, not_read, reports_unread}
use Rattle.osn_serve_commands.proofs.loaded_journal.read_journal_to_keep.Goals as goal

pub returns-in_err-bytes-clause-err : goal.returns-in_err-bytes-clause-err
returns-in_err-bytes-clause-err g c =
    let before = g.J.Source.has_failed c.args.journal.now in
    let failed = g.J.Source.has_failed c.read_all.new.source in
    let why = c.in_err-bytes.field-0.0 in
    if_err_made c.from_residual.result c.from_residual.ensures.1
    (λ e is. any_bytes _ _ (λ content known.
    not_read c.args.limits content before failed why e is
    (subst (WhyNotRead why before failed) known c.in_err-bytes.ensures.reason)))

pub returns-in_err-held_journal-clause-err : goal.returns-in_err-held_journal-clause-err
returns-in_err-held_journal-clause-err g c =
    let failed = g.J.Source.has_failed c.read_all.new.source in
    let why = c.in_err-held_journal.field-0.0 in
    if_err_made c.from_residual-in_err-held_journal.result
    c.from_residual-in_err-held_journal.ensures.1
    (λ e is. any_bytes _ _ (λ content known.
    reports_unread c.args.limits content failed why e is
    (none_held c.args.limits content failed why
    (subst (λ l. IsUnread c.args.limits l false why)
    (known_bytes _ content (λ bytes. c.in_ok-bytes.bytes.items ≡ bytes) known
    c.in_ok-bytes.ensures.bytes) c.in_err-held_journal.ensures.err))))
