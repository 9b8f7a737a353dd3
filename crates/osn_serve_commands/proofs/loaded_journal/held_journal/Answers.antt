use Rattle.std.proofs.Common.{◌≡◌, Ok, false, subst, sym, ◌∙◌, arith, length-take}
use Rattle.osn_files.specs.CountedPrefix.{IsCountedPrefix}
use Rattle.osn_serve_commands.specs.Keep.{IsUnread, SaysVersion, object_of}
use Rattle.osn_serve_commands.proofs.ResultLemmas.{if_err_made}
use Rattle.osn_serve_commands.proofs.KeepLemmas.{whole_read, whole_within}
use Rattle.osn_serve_commands.proofs.loaded_journal.held_journal.Goals as goal

pub returns-in_err-part-clause-err : goal.returns-in_err-part-clause-err
returns-in_err-part-clause-err c =
    if_err_made c.from_residual.result c.from_residual.ensures.1
    (λ e is. subst (IsUnread c.args.limits c.args.bytes.items false) (sym is) tt)

pub slice_bounds-kept_object-end : goal.slice_bounds-kept_object-end
slice_bounds-kept_object-end c =
    let part = c.in_ok-part.part in
    let read = c.deref-2.result.now in
    omega (
      arith,
      length-take part.bytes read,
      whole_within part read
          (subst (IsCountedPrefix part)
          (c.deref.ensures.value ∙ sym c.deref-2.ensures.value)
          c.in_ok-part.ensures.ok),
    )

pub returns-in_err-object-clause-err : goal.returns-in_err-object-clause-err
returns-in_err-object-clause-err c =
    if_err_made c.from_residual-in_err-object.result c.from_residual-in_err-object.ensures.1
    (λ e is. subst (IsUnread c.args.limits c.args.bytes.items false) (sym is)
    (c.in_err-object.ensures.err c.args.bytes.items
    (whole_read c.in_ok-part.part c.deref-2.result.now c.args.bytes.items c.deref-2.ensures.value
    (subst (IsCountedPrefix c.in_ok-part.part)
    (c.deref.ensures.value ∙ sym c.deref-2.ensures.value)
    c.in_ok-part.ensures.ok))))

pub returns-clause-ok : goal.returns-clause-ok
returns-clause-ok c =
    let object = c.in_ok-object.object in
    let version = c.in_ok-object.version in
    let counts = subst (IsCountedPrefix c.in_ok-part.part) c.deref.ensures.value
    c.in_ok-part.ensures.ok in
    let whole =
    whole_read c.in_ok-part.part c.deref-2.result.now c.args.bytes.items c.deref-2.ensures.value
    (subst (IsCountedPrefix c.in_ok-part.part)
    (c.deref.ensures.value ∙ sym c.deref-2.ensures.value)
    c.in_ok-part.ensures.ok) in (
      counts,
      record {
        object =
            subst (λ l. object_of c.args.limits l ≡ Ok object) whole
            c.in_ok-object.ensures.object;
        says = subst (SaysVersion version) whole c.in_ok-object.ensures.version;
      },
    )
