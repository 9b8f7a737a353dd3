use Rattle.std.proofs.Common.{◌≡◌, ◌+◌, inl, inr, ◌∙◌, sym, ap, arith}
use Rattle.std.proofs.lemmas.Bool.{cases_lt}
use Rattle.std.proofs.lemmas.Int.{ints}
use Rattle.osn_days.specs.declared.calendar.Calendar.TheVariants.{Julian, Swedish}
use Rattle.osn_days.specs.Chain.{date_of}
use Rattle.osn_days.proofs.SwedishFacts.{swedish_before, swedish_ahead, swedish_extra}
use Rattle.osn_days.proofs.SwedishFacts.{swedish_after}
use Rattle.osn_days.proofs.swedish.date_of.Goals as goal

pub returns-then-number-eq-FEBRUARY_30_1712-clause-value :
    goal.returns-then-number-eq-FEBRUARY_30_1712-clause-value
returns-then-number-eq-FEBRUARY_30_1712-clause-value c =
    let here : c.args.day ≡ 625000 = omega arith in
    sym swedish_extra ∙ ap (date_of Swedish) (sym here)

pub returns-then-number-lt-FEBRUARY_30_1712-clause-value :
    goal.returns-then-number-lt-FEBRUARY_30_1712-clause-value
returns-then-number-lt-FEBRUARY_30_1712-clause-value c =
    let here : c.on_line.result ≡ c.args.day + 1 = omega (arith, ints, c.on_line.ensures) in
    c.date_of.ensures.value ∙ ap (date_of Julian) here
    ∙ sym (swedish_ahead c.args.day (omega arith) (omega arith))

pub returns-clause-value : goal.returns-clause-value
returns-clause-value c =
    elim (cases_lt c.args.day 620617) [
      | inl lt ↦ c.date_of-2.ensures.value ∙ sym (swedish_before c.args.day (omega arith))
      | inr ge ↦ c.date_of-2.ensures.value ∙ sym (swedish_after c.args.day (omega arith))
    ]
