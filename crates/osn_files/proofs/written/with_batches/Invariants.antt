use Rattle.std.proofs.Common.{◌≡◌, ◌++◌, drop}
use Rattle.osn_files.specs.JournalText.{batches_text}
use Rattle.osn_files.proofs.written.with_batches.Given as goal

-- the text so far and the batches that are left make the whole text
abbrev pub invariant-loop-batch : goal.invariant-loop-batch
invariant-loop-batch l =
    l.more.items ++ batches_text (drop l.batch-index l.batches)
    ≡ l.initial.more.items ++ batches_text l.batches
