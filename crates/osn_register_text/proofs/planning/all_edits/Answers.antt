use Rattle.std.proofs.Common.{◌+◌, ◌<◌, ◌++◌, length, drop, ap, sym, ◌∙◌, arith, append_assoc}
use Rattle.std.proofs.Common.{append-nil}
use Rattle.std.proofs.lemmas.Option.{slice_get_within}
use Rattle.std.specs.List.{slice_get}
use Rattle.osn_register.specs.declared.limits.Limits.{Limits}
use Rattle.osn_register_text.specs.Differences.{edits_for, entry_edits}
use Rattle.osn_register_text.proofs.ChangeEdits.{same_entry_edits}
use Rattle.osn_register_text.proofs.Places.{left_from, none_left, is_listed, none_listed}
use Rattle.osn_register_text.proofs.planning.all_edits.Goals as goal

pub overflow_add-index : goal.overflow_add-index
overflow_add-index c =
    let target = c.args.target.now.territories in
    let index = c.loop-code.index in
    let here = is_listed (slice_get target index) _ _ _ (sym c.in-Some.ensures.value) in
    let within : index < length target = slice_get_within target index here.entry here.is in
    omega (
      arith,
      within,
      c.in-Some.ensures.well_formed.within,
      ap (λ (l : Limits). l.lands) c.limits-most.ensures.value,
    )

pub loop-code-smaller : goal.loop-code-smaller
loop-code-smaller c =
    let target = c.args.target.now.territories in
    let index = c.loop-code.index in
    let here = is_listed (slice_get target index) _ _ _ (sym c.in-Some.ensures.value) in
    let within : index < length target = slice_get_within target index here.entry here.is in
    omega (arith, within)

pub loop-code-preserved : goal.loop-code-preserved
loop-code-preserved c =
    let territories = c.args.register.now.territories in
    let target = c.args.target.now.territories in
    let index = c.loop-code.index in
    let old = c.loop-code.edits.items in
    let code = c.in-Some.code.now in
    let name = c.in-Some.name.now in
    let territory = c.in-Some.territory.now in
    let rest = edits_for target territories (drop (index + 1) target) in
    let here = is_listed (slice_get target index) code name territory
    (sym c.in-Some.ensures.value) in
    ap (λ es. es ++ rest) c.in_ok-push_edits.ensures
    ∙ append_assoc old (entry_edits target territories code name territory) rest
    ∙ ap (λ es. old ++ (es ++ rest))
    (sym (same_entry_edits target territories here.entry code name territory here.code_is
    here.name_is here.territory_is))
    ∙ ap (λ ls. old ++ edits_for target territories ls)
    (sym (left_from target index here.entry here.is)) ∙ c.loop-code.invariant

pub returns : goal.returns
returns c =
    let territories = c.args.register.now.territories in
    let target = c.args.target.now.territories in
    let index = c.loop-code.index in
    sym (append-nil c.loop-code.edits.items)
    ∙ ap (λ ls. c.loop-code.edits.items ++ edits_for target territories ls)
    (sym (none_left target index
    (none_listed (slice_get target index) (sym c.in_default.ensures.value))))
    ∙ c.loop-code.invariant
