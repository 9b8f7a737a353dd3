-- The test whether two regimes are one.
use Rattle.std.proofs.Common.{◌≡◌, true, refl, ap, ◌∙◌}
use Rattle.std.proofs.lemmas.Bool.{and_parts, and_from}
use denote.Enum.Bare.{sameb, same_true, true_same}
use Rattle.osn_days.specs.contracts.calendar.Calendar as calendar
use Rattle.osn_computus.specs.contracts.rule.Rule as rule
use Rattle.osn_territory.specs.contracts.style.Style as style
use Rattle.osn_days.specs.declared.calendar.Calendar.{Calendar}
use Rattle.osn_computus.specs.declared.rule.Rule.{Rule}
use Rattle.osn_territory.specs.declared.style.Style.{Style}
use Rattle.osn_territory.specs.declared.regime.Regime.{Regime}
use Rattle.osn_register_text.specs.Differences.{is_same}

pub same_regime : (a b : Regime) → is_same a b ≡ true → a ≡ b
same_regime a b same =
    let first = and_parts (sameb calendar.the_type a.calendar b.calendar) _ same in
    let last = and_parts (sameb style.the_type a.style b.style) _ first.1 in
    let calendars : a.calendar ≡ b.calendar =
    same_true calendar.the_type tt a.calendar b.calendar first.0 in
    let styles : a.style ≡ b.style = same_true style.the_type tt a.style b.style last.0 in
    let easters : a.rule ≡ b.rule = same_true rule.the_type tt a.rule b.rule last.1 in
    ap (λ (c : Calendar). let r : Regime = record { calendar = c; style = a.style; rule = a.rule }
    in r) calendars
    ∙ ap (λ (s : Style). let r : Regime = record
    { calendar = b.calendar; style = s; rule = a.rule } in r) styles
    ∙ ap (λ (e : Rule). let r : Regime = record { calendar = b.calendar; style = b.style; rule = e }
    in r) easters

pub regime_itself : (a : Regime) → is_same a a ≡ true
regime_itself a =
    and_from _ _ (true_same calendar.the_type a.calendar a.calendar refl)
    (and_from _ _ (true_same style.the_type a.style a.style refl)
    (true_same rule.the_type a.rule a.rule refl))
