use Rattle.std.proofs.Common.{◌<◌, ◌≡◌, false, length, ap, sym, arith}
use Rattle.std.proofs.lemmas.Option.{slice_get_within}
use Rattle.std.specs.List.{slice_get}
use Rattle.osn_register.specs.declared.limits.Limits.{Limits}
use Rattle.osn_register_text.specs.Fault.{has_other_name, IsNameFault, IsFault}
use Rattle.osn_register_text.specs.NeededEdits.{name_in}
use Rattle.osn_register_text.proofs.NameTests.{called_more, called_all, name_fault}
use Rattle.osn_register_text.proofs.ChangeEdits.{handed_on}
use Rattle.osn_register_text.proofs.Places.{is_listed, none_listed, of_entry}
use Rattle.osn_register_text.proofs.names.check_names.Goals as goal

pub returns-in_err-check_name-clause-err : goal.returns-in_err-check_name-clause-err
returns-in_err-check_name-clause-err c =
    let territories = c.args.register.now.territories in
    let target = c.args.target.now.territories in
    let index = c.loop-code.index in
    let f = c.in_err-check_name.field-0.0 in
    let here = is_listed (slice_get target index) _ _ _ (sym c.in-Some.ensures.value) in
    handed_on (IsFault c.args.register.now.limits target territories) c.from_residual.result f
    c.from_residual.ensures.1
    (name_fault target territories index c.args.register.now.limits here.entry here.is
    c.loop-code.invariant f
    (of_entry (λ code name. IsNameFault territories code name f) here.entry _ _ here.code_is
    here.name_is c.in_err-check_name.ensures.err))

pub overflow_add-index : goal.overflow_add-index
overflow_add-index c =
    let target = c.args.target.now.territories in
    let index = c.loop-code.index in
    let here = is_listed (slice_get target index) _ _ _ (sym c.in-Some.ensures.value) in
    let within : index < length target = slice_get_within target index here.entry here.is in
    omega (
      arith,
      within,
      c.in-Some.ensures.well_formed.within,
      ap (λ (l : Limits). l.lands) c.limits-most.ensures.value,
    )

pub loop-code-smaller : goal.loop-code-smaller
loop-code-smaller c =
    let target = c.args.target.now.territories in
    let index = c.loop-code.index in
    let here = is_listed (slice_get target index) _ _ _ (sym c.in-Some.ensures.value) in
    let within : index < length target = slice_get_within target index here.entry here.is in
    omega (arith, within)

pub loop-code-preserved : goal.loop-code-preserved
loop-code-preserved c =
    let territories = c.args.register.now.territories in
    let target = c.args.target.now.territories in
    let index = c.loop-code.index in
    let here = is_listed (slice_get target index) _ _ _ (sym c.in-Some.ensures.value) in
    called_more target territories index here.entry here.is
    (of_entry (λ code name. has_other_name name (name_in territories code) ≡ false) here.entry _ _
    here.code_is here.name_is c.in_ok-check_name.ensures.ok) c.loop-code.invariant

pub returns-clause-ok : goal.returns-clause-ok
returns-clause-ok c =
    let target = c.args.target.now.territories in
    let index = c.loop-code.index in
    called_all target c.args.register.now.territories index
    (none_listed (slice_get target index) (sym c.in_default.ensures.value)) c.loop-code.invariant
