use Rattle.std.proofs.Common.{◌≡◌, ◌++◌, string_bytes}
use Rattle.std.specs.Iterator.Adapters.{zip_first, zip_second}
use Rattle.std.specs.Slice.Iter.{iter_rest}
use Rattle.osn_file_commands.specs.Transcript as spec
use Rattle.osn_file_commands.proofs.transcript.push_reader.Given as goal

-- the lines so far, and those of the questions that are left
abbrev pub invariant-loop-question : goal.invariant-loop-question
invariant-loop-question l =
    string_bytes l.text ++ spec.reader_lines l.reader
    (iter_rest (zip_first l.question-iterator)) (iter_rest (zip_second l.question-iterator))
    ≡ string_bytes l.initial.text ++ spec.reader_lines l.reader l.questions l.replies
