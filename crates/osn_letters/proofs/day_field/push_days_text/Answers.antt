use Rattle.std.proofs.Common.{◌≡◌, ◌∙◌, ◌++◌, ◌<◌, List, [], ◌∷◌, length, get_or, take, rules, ap}
use Rattle.std.proofs.Common.{append-nil, arith, sym}
use Rattle.std.proofs.lemmas.List.{take_all}
use Rattle.osn_territory.specs.declared.dating.DatedDay.{DatedDay}
use Rattle.osn_letters.specs.declared.day_field.DayField.{DayField}
use Rattle.osn_letters.specs.Fields.{day_text, days_text}
use Rattle.osn_letters.proofs.day_field.push_days_text.Goals as goal

-- the first day alone
first_text : (f : DayField) (days : List DatedDay) (d : DatedDay) → 0 < length days
    → d ≡ get_or days 0 d → day_text f d ≡ days_text (take 1 days) f
first_text f [] d some is = absurd (omega (arith, some))
first_text f (day ∷ days) d some is =
    ap (day_text f) is ∙ sym (append-nil (day_text f day))

pub loop-index-init : goal.loop-index-init
loop-index-init c =
    c.in_ok-push_day_text.ensures
    ∙ ap (λ l. c.args.text.now.items ++ l)
    (first_text c.args.field c.args.days.now c.index-days-0.result (search rules) (search rules))

pub returns : goal.returns
returns c =
    c.loop-index.invariant
    ∙ ap (λ l. c.args.text.now.items ++ days_text l c.args.field)
    (take_all c.loop-index.index c.args.days.now (search rules))
