use Rattle.std.proofs.Common.{◌≡◌, ◌++◌, ◌+◌, [], ◌∷◌, get_or, take, rules, arith, zero-le, ap}
use Rattle.std.proofs.Common.{◌∙◌}
use Rattle.std.proofs.lemmas.Grind.{common_steps}
use Rattle.std.proofs.lemmas.List.{take_more}
use Rattle.osn_days.specs.Rules.{newest_rules}
use Rattle.osn_register.specs.declared.query.Query.{Query}
use Rattle.osn_register.specs.declared.limits.Limits.{Limits}
use Rattle.osn_core.specs.Sequential.{reply_at}
use Rattle.osn_live.specs.Desk.{AreReplies}
use Rattle.osn_live.specs.declared.protocol.Origin.{Origin}
use Rattle.osn_live.proofs.ReplyLemmas.{replies_later, replies_more}
use Rattle.osn_live.proofs.AtWork.{ask_at}
use Rattle.osn_live.proofs.Hears.{hears_more}
use Rattle.osn_live.proofs.work.answer_all.Goals as goal

pub loop-question-preserved : goal.loop-question-preserved
loop-question-preserved g c =
    let called = c.in_ok-reply.ensures in
    let loop = c.loop-question in
    let l : Limits = c.args.reader.now.origin.limits in
    let now = c.ask.new.self.seen in
    let questions = c.args.questions.now in
    let before = take loop.question-index questions in
    let question : Query = c.question-item.result in
    let q : Query = get_or questions loop.question-index question in
    let more : take (loop.question-index + 1) questions ≡ before ++ q ∷ [] =
    take_more questions loop.question-index question (omega arith) in
    let pushed : c.push.new.self.items ≡ loop.replies.items ++ c.in_ok-reply.reply ∷ [] =
    grind (arith, common_steps) in
    let one : c.in_ok-reply.reply ≡ reply_at newest_rules l now q =
    called.value ∙ ap (λ (o : Origin). reply_at newest_rules o.limits now question)
    (called.origin ∙ loop.invariant.origin) ∙ ap (reply_at newest_rules l now) c.question-item.is in
    let later : AreReplies newest_rules l now 0 before loop.replies.items =
    replies_later newest_rules l loop.reader.seen now 0 before loop.replies.items called.seen
    loop.invariant.replies in
    record {
      origin = search rules;
      replies = rw (more, pushed, one)
          (replies_more newest_rules l now 0 before loop.replies.items q zero-le later);
      gate = search rules;
      who = search rules;
      begun = search rules;
      ended = search rules;
      hears = hears_more _ _ _ _ _ loop.invariant.hears (search rules) (search rules);
    }

pub returns-in_err-reply-clause-gate : goal.returns-in_err-reply-clause-gate
returns-in_err-reply-clause-gate g c =
    let called = ask_at (g.G.Gate.is_open c.args.turns.now.gate.now) c.in_err-reply.field-0.0 in
    search (rules, called)
