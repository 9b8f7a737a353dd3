use Rattle.std.proofs.Common.{[], ◌∷◌, ◌++◌, ap, ◌∙◌}
use Rattle.std.proofs.lemmas.List.{replicate-append-replicate}
use Rattle.osn_core.specs.declared.reader.ReaderState.TheVariants.{Idle}
use Rattle.osn_core.proofs.readers.Readers.new.Goals as goal

pub loop-preserved : goal.loop-preserved
loop-preserved c =
    c.in_ok-push.ensures.items
    ∙ ap (λ states. states ++ Idle ∷ []) c.loop.invariant
    ∙ replicate-append-replicate c.loop.counter 1 Idle
