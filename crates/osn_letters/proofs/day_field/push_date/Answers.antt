use Rattle.std.proofs.Common.{◌≡◌, ◌∙◌, ◌++◌, ap, refl, rules, to_z, of_z, w32}
use Rattle.std.proofs.lemmas.Result.{on_ok_weaker}
use Rattle.osn_days.specs.DateText.{date_digits, date_text, text_of_date}
use Rattle.osn_letters.proofs.FieldFacts.{appended}
use Rattle.osn_letters.proofs.day_field.push_date.Goals as goal

pub returns-then-date-lt100-2 : goal.returns-then-date-lt100-2
unfolding date_text
returns-then-date-lt100-2 c =
    let year : to_z w32 (of_z w32 c.args.date.year) ≡ c.args.date.year = search rules in
    let same :
    date_digits c.unsigned_abs-year.result c.from.result c.from-then-date-lt100-2.result
    ≡ text_of_date c.args.date =
    rw (
      c.unsigned_abs-year.ensures.value,
      c.from.ensures,
      c.from-then-date-lt100-2.ensures,
      year,
    ) refl in
    on_ok_weaker c.extend_from_slice.result
    (λ e. e ∙ ap (λ l. c.args.text.now.items ++ l) (c.date_digits-digits.ensures.value ∙ same))
    (appended c.extend_from_slice.result _ _ _ c.extend_from_slice.ensures.items)
