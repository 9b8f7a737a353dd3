use Rattle.std.proofs.Common.{sym, ◌∙◌}
use Rattle.osn_journal.proofs.FrontLemmas.{ended-front, few-front, not_empty, rest-front}
use Rattle.osn_journal.proofs.line_front.LineFront.end.Goals as goal

pub returns-clause-few : goal.returns-clause-few
returns-clause-few c =
    few-front c.args.self.now c.add.new.self
    (not_empty c.args.self.now (sym c.is_empty.ensures ∙ c.if-is_empty.false))
    c.add.result c.add.ensures.rest

pub returns-clause-lines : goal.returns-clause-lines
returns-clause-lines c =
    ended-front c.args.self.now c.add.new.self
    (not_empty c.args.self.now (sym c.is_empty.ensures ∙ c.if-is_empty.false))
    (λ ended. ended.items) c.add.result c.add.ensures.ended

pub returns-clause-rest : goal.returns-clause-rest
returns-clause-rest c =
    rest-front c.args.self.now c.add.new.self
    (not_empty c.args.self.now (sym c.is_empty.ensures ∙ c.if-is_empty.false))
    c.add.result c.add.ensures.rest
