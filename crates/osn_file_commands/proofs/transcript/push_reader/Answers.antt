use Rattle.std.proofs.Common.{string_bytes, ◌∙◌}
use Rattle.std.proofs.lemmas.Slice.Zip.{Zip-more, either_empty_from_Zip}
use Rattle.osn_service.specs.Transcript.{transcript_line}
use Rattle.osn_file_commands.proofs.LineLemmas.{last_piece, next_piece, reader_front, reader_end}
use Rattle.osn_file_commands.specs.Transcript as spec
use Rattle.osn_file_commands.proofs.transcript.push_reader.Goals as goal

pub loop-question-preserved : goal.loop-question-preserved
loop-question-preserved c =
    let reader = c.args.reader in
    let asked = c.in-Some.question in
    let answers = c.in-Some.reply in
    let step = Zip-more c.loop-question.question-iterator c.next.new.self _ (asked, answers)
    c.in-Some.is c.next.ensures.steps in
    next_piece (string_bytes c.args.text.now) (string_bytes c.loop-question.text)
    (string_bytes c.push_str.new.self) c.as_str.result.now
    (transcript_line reader asked.now answers.now) _
    (spec.reader_lines reader c.args.questions.now c.args.replies.now) _
    c.loop-question.invariant
    (reader_front reader _ _ asked.now _ answers.now _ step.0 step.1)
    c.in_ok-push_str.ensures.bytes (c.as_str.ensures.value ∙ c.in_ok-line.ensures)

pub returns : goal.returns
returns c =
    last_piece (string_bytes c.args.text.now) _
    (spec.reader_lines c.args.reader c.args.questions.now c.args.replies.now) _
    c.loop-question.invariant
    (reader_end _ _ _ (either_empty_from_Zip c.loop-question.question-iterator c.next.new.self _
    c.in-None.is c.next.ensures.steps))
