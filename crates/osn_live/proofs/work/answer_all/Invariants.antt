use Rattle.std.proofs.Common.{◌≡◌, take}
use Rattle.osn_days.specs.Rules.{newest_rules}
use Rattle.osn_live.specs.Desk.{AreReplies, HearsOf}
use Rattle.osn_live.proofs.work.answer_all.Given as goal

abbrev pub invariant-loop-question : goal.invariant-loop-question
invariant-loop-question g l = record {
  origin : l.reader.origin ≡ l.fn.reader.origin;
  replies : AreReplies newest_rules l.fn.reader.origin.limits l.reader.seen 0
      (take l.question-index l.questions) l.replies.items;
  gate : l.turns.gate ≡ l.fn.turns.gate;
  who : l.turns.who ≡ l.fn.turns.who;
  begun : l.turns.begun ≡ l.question-index;
  ended : l.turns.ended ≡ l.question-index;
  hears : HearsOf g.G.Gate.let_pass g.G.Gate.saw_end l.fn.turns.gate.now l.fn.turns.who
      l.question-index;
}
