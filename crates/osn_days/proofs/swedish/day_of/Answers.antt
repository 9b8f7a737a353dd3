use Rattle.std.proofs.Common.{◌≡◌, ◌+◌, inl, inr, ◌∙◌, sym, ap, arith}
use Rattle.std.proofs.lemmas.Bool.{cases_lt}
use Rattle.std.proofs.lemmas.Int.{ints}
use Rattle.std.specs.Option.{option_to_list}
use Rattle.osn_days.specs.Rules.{newest_rules}
use Rattle.osn_days.specs.declared.date.Date.{Date}
use Rattle.osn_days.specs.declared.calendar.Calendar.TheVariants.{Julian, Swedish}
use Rattle.osn_days.specs.Chain.{february, date_of}
use Rattle.osn_days.proofs.ChainFacts.{date_is}
use Rattle.osn_days.proofs.LineFacts.{date_of_injective, day_with_date, no_day_with_date, one_day}
use Rattle.osn_days.proofs.LineFacts.{no_day}
use Rattle.osn_days.proofs.SwedishFacts.{swedish_before, swedish_ahead, swedish_extra}
use Rattle.osn_days.proofs.SwedishFacts.{swedish_after, swedish_cases}
use Rattle.osn_days.proofs.swedish.day_of.Goals as goal

pub returns-then-date-eq30 : goal.returns-then-date-eq30
returns-then-date-eq30 c =
    let here : c.on_line.result ≡ 625000 = omega (arith, ints, c.on_line.ensures) in
    let is : february 1712 30 ≡ c.args.date =
    date_is (february 1712 30) c.args.date (omega (arith, ints)) (omega arith) (omega arith) in
    one_day newest_rules Swedish c.args.date c.on_line.result (omega arith, omega arith)
    (ap (date_of Swedish) here ∙ swedish_extra ∙ is)

pub returns-in_err-day : goal.returns-in_err-day
returns-in_err-day c =
    ap option_to_list c.from_residual.ensures
    ∙ no_day newest_rules Swedish c.args.date (λ n on. swedish_cases (λ d. d ≡ c.args.date → ⊥) n
    (λ high. no_day_with_date newest_rules Julian c.args.date n c.in_err-day.ensures on)
    (λ low high. no_day_with_date newest_rules Julian c.args.date (n + 1) c.in_err-day.ensures
    (omega arith, omega arith))
    (λ _ is. let year = ap (λ (e : Date). e.year) is in let month = ap (λ (e : Date). e.month) is in
    let day = ap (λ (e : Date). e.day) is in
    absurd (omega (arith, ints)))
    (λ low. no_day_with_date newest_rules Julian c.args.date n c.in_err-day.ensures on))

pub returns-then-number-eq-MARCH_1_1700 : goal.returns-then-number-eq-MARCH_1_1700
returns-then-number-eq-MARCH_1_1700 c =
    let found = day_with_date newest_rules Julian c.args.date c.in_ok-day.day c.in_ok-day.ensures in
    no_day newest_rules Swedish c.args.date (λ n on. swedish_cases (λ d. d ≡ c.args.date → ⊥) n
    (λ high is. let same =
    date_of_injective Julian n c.in_ok-day.day on.0 found.0.0 (is ∙ sym found.1) in
    absurd (omega arith))
    (λ low high is. let same =
    date_of_injective Julian (n + 1) c.in_ok-day.day (omega arith) found.0.0 (is ∙ sym found.1) in
    absurd (omega arith))
    (λ _ is. let year = ap (λ (e : Date). e.year) is in let month = ap (λ (e : Date). e.month) is in
    let day = ap (λ (e : Date). e.day) is in
    absurd (omega (arith, ints)))
    (λ low is. let same =
    date_of_injective Julian n c.in_ok-day.day on.0 found.0.0 (is ∙ sym found.1) in
    absurd (omega arith)))

pub returns-then-number-le-FEBRUARY_30_1712 : goal.returns-then-number-le-FEBRUARY_30_1712
returns-then-number-le-FEBRUARY_30_1712 c =
    let found = day_with_date newest_rules Julian c.args.date c.in_ok-day.day c.in_ok-day.ensures in
    let here : c.on_line-then-number-le-FEBRUARY_30_1712.result + 1 ≡ c.in_ok-day.day =
    omega (arith, ints, c.on_line-then-number-le-FEBRUARY_30_1712.ensures) in
    one_day newest_rules Swedish c.args.date c.on_line-then-number-le-FEBRUARY_30_1712.result
    (omega arith, omega arith)
    (swedish_ahead c.on_line-then-number-le-FEBRUARY_30_1712.result (omega arith) (omega arith)
    ∙ ap (date_of Julian) here ∙ found.1)

pub returns : goal.returns
returns c =
    let found = day_with_date newest_rules Julian c.args.date c.in_ok-day.day c.in_ok-day.ensures in
    one_day newest_rules Swedish c.args.date c.in_ok-day.day found.0
    (elim (cases_lt c.in_ok-day.day 620617) [
      | inl lt ↦ swedish_before c.in_ok-day.day (omega arith) ∙ found.1
      | inr ge ↦ swedish_after c.in_ok-day.day (omega arith) ∙ found.1
    ])
