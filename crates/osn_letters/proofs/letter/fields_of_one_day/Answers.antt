use Rattle.std.proofs.Common.{◌≡◌, ◌∙◌, [], rules, length, ap, refl}
use Rattle.std.proofs.lemmas.Result.{IfOk-weaker}
use Rattle.osn_days.specs.Rules.{newest_rules}
use Rattle.osn_written.specs.Meaning.{dated_by}
use Rattle.osn_letters.proofs.FieldFacts.{meant_are}
use Rattle.osn_letters.proofs.letter.fields_of_one_day.Goals as goal

pub returns : goal.returns
returns c = IfOk-weaker c.fields_of_days.result _ _ (λ fields same.
    let some : c.in_ok-days.days.items ≡ [] → ⊥ = λ none.
    let count : length c.in_ok-days.days.items ≡ 0 = ap length none in search rules in
    same ∙ meant_are newest_rules c.args.edition c.args.own.now c.args.territory.now c.args.date
    c.args.day c.args.weekday _ _ c.in_ok-days.days.items _ _
    (c.in_ok-days.ensures
    ∙ ap (dated_by newest_rules c.args.own.now)
    (c.as_slice.ensures.value ∙ c.in_ok-meant_days.ensures.value)) some
    c.deref.ensures.value refl c.remarks_on_days-on_days.ensures)
    c.fields_of_days.ensures
