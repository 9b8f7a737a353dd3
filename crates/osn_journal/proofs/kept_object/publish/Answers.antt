use Rattle.std.proofs.Common.{◌∙◌, ◌++◌, ap}
use Rattle.osn_service.specs.declared.store.Change.TheVariants.{Publish}
use Rattle.osn_journal.specs.ChangeInside.{change_line}
use Rattle.osn_journal.proofs.AppendLemmas.{ChangeResult-result}
use Rattle.osn_journal.proofs.kept_object.publish.Goals as goal

pub returns : goal.returns
returns g c =
    ChangeResult-result Publish _ _ c.deref.result.now c.append_synced.result c.map_err.result _ _
    c.in_ok-make_edition.ensures.ok tt
    (c.deref.ensures.value
    ∙ (c.in_ok-line.ensures ∙ ap (λ l. l ++ change_line Publish) c.new.ensures.items))
    c.map_err.ensures.cases c.append_synced.ensures
