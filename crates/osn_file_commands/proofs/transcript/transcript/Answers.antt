use Rattle.std.proofs.Common.{string_bytes, [], ◌+◌, refl}
use Rattle.std.proofs.lemmas.Slice.Zip.{Zip-more, either_empty_from_Zip}
use Rattle.osn_file_commands.proofs.LineLemmas.{last_piece, next_piece, readers_front, readers_end}
use Rattle.osn_file_commands.proofs.LineLemmas.{few_left, same_lines}
use Rattle.osn_file_commands.specs.Transcript as spec
use Rattle.osn_file_commands.proofs.transcript.transcript.Goals as goal

pub loop-questions-preserved : goal.loop-questions-preserved
loop-questions-preserved c =
    let loop = c.loop-questions in
    let reader = loop.reader + 1 in
    let asked = c.in-Some.questions in
    let answers = c.in-Some.replies in
    let step = Zip-more loop.questions-iterator c.next.new.self _ (asked, answers)
    c.in-Some.is c.next.ensures.steps in
    record {
      few = few_left loop.reader _ asked.now _ step.0 loop.invariant.few;
      text = next_piece [] (string_bytes loop.text) (string_bytes c.push_reader.new.text) _
          (spec.reader_lines reader asked.now.items answers.now.items) _
          (spec.transcript_from 1 c.args.lists.now c.args.answers.now) _
          loop.invariant.text
          (readers_front reader _ _ _ asked.now _ answers.now _ step.0 step.1 refl)
          c.in_ok-push_reader.ensures
          (same_lines reader _ _ _ _ c.deref.ensures.value
          c.deref-in-loop-questions.ensures.value);
    }

pub returns : goal.returns
returns c =
    last_piece [] _ _ _ c.loop-questions.invariant.text
    (readers_end _ _ _ (either_empty_from_Zip c.loop-questions.questions-iterator
    c.next.new.self _ c.in-None.is c.next.ensures.steps))
