use Rattle.std.proofs.Common.{◌≡◌, subst, sym, rules}
use Rattle.osn_days.specs.Rules.{first_rules, newest_rules}
use Rattle.osn_register.specs.Answer.{answer}
use Rattle.osn_register.specs.BorrowedQuery.{as_query}
use Rattle.osn_register.specs.EarlierRules.{KeepsAnswer}
use Rattle.osn_register.specs.declared.answer.Answer.TheVariants.{Refused}
use Rattle.osn_register.proofs.EarlierAnswers.{keeps_answer}
use Rattle.osn_register.proofs.register.Register.answer_borrowed.Goals as goal

pub returns-in-Err-Refused-clause-memory : goal.returns-in-Err-Refused-clause-memory
returns-in-Err-Refused-clause-memory c = search rules

pub returns-in-Ok-clause-earlier_rules : goal.returns-in-Ok-clause-earlier_rules
returns-in-Ok-clause-earlier_rules c =
    let territories = c.args.self.now.territories in
    let q = as_query c.args.query in
    let is : c.in-Ok.answer ≡ answer newest_rules territories q = search rules in
    subst (KeepsAnswer first_rules territories q) (sym is) (keeps_answer territories q)

pub returns-in-Err-Refused-clause-earlier_rules : goal.returns-in-Err-Refused-clause-earlier_rules
returns-in-Err-Refused-clause-earlier_rules c =
    let territories = c.args.self.now.territories in
    let q = as_query c.args.query in
    let is : Refused c.in-Err-Refused.refusal ≡ answer newest_rules territories q = search rules in
    subst (KeepsAnswer first_rules territories q) (sym is) (keeps_answer territories q)
