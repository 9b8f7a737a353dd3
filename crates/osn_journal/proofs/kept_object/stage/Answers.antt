use Rattle.std.proofs.Common.{◌∙◌, ◌++◌, ap}
use Rattle.osn_service.specs.declared.store.Change.TheVariants.{Stage}
use Rattle.osn_journal.specs.ChangeInside.{change_line}
use Rattle.osn_journal.proofs.AppendLemmas.{appended_or_failed, ChangeResult-result}
use Rattle.osn_journal.proofs.kept_object.stage.Goals as goal

pub returns : goal.returns
returns g c =
    let change = Stage c.args.edit in
    let append = c.append.ensures in
    ChangeResult-result change _ _ c.deref.result.now c.append.result c.map_err.result _ _
    c.in_ok-admit.ensures.ok c.in_ok-admit.ensures.source
    (c.deref.ensures.value
    ∙ (c.in_ok-line.ensures ∙ ap (λ l. l ++ change_line change) c.new.ensures.items))
    c.map_err.ensures.cases
    (appended_or_failed c.deref.result.now c.append.result _ _ append.ok append.err append.disk
    append.fault)
