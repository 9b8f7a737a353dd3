use Rattle.std.proofs.Common.{◌≡◌, ◌≤◌, ◌+◌, ◌++◌, length, string_bytes}
use Rattle.std.specs.Iterator.Adapters.{zip_first, zip_second}
use Rattle.std.specs.Slice.Iter.{iter_rest}
use Rattle.osn_file_commands.specs.Transcript as spec
use Rattle.osn_file_commands.proofs.transcript.transcript.Given as goal

abbrev pub invariant-loop-questions : goal.invariant-loop-questions
invariant-loop-questions l = record {
  few : l.reader + length (iter_rest (zip_first l.questions-iterator)) ≤ 64;
  -- the lines so far, and those of the readers that are left
  text : string_bytes l.text ++ spec.transcript_from (l.reader + 1)
      (iter_rest (zip_first l.questions-iterator)) (iter_rest (zip_second l.questions-iterator))
      ≡ spec.transcript_from 1 l.lists l.answers;
}
