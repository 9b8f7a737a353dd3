use Rattle.std.proofs.Common.{◌≤◌, length, arith, rules}
use Rattle.osn_days.specs.Rules.{newest_rules}
use Rattle.osn_live.proofs.ReplyLemmas.{later_first, replies_settled}
use Rattle.osn_live.proofs.desk.check_against_note.Goals as goal

pub returns-clause-replies : goal.returns-clause-replies
returns-clause-replies c =
    let xs = c.args.work_result.reader.seen in
    let ys = c.args.note.batches in
    let le : length xs ≤ length ys =
    omega (
      arith,
      c.edition-last.ensures,
      c.edition-editions.ensures,
      c.if-last-editions.false,
    ) in
    let settled = replies_settled newest_rules c.args.note.origin.limits xs ys c.args.questions.now
    c.args.work_result.replies (later_first xs ys _ c.learn.ensures.later le) c.requires.replies in
    search (rules, settled)
