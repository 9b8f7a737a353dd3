use Rattle.std.proofs.Common.{◌∙◌, ◌++◌, ◌∷◌, [], map, ap}
use Rattle.std.proofs.lemmas.Result.{on_ok_weaker}
use Rattle.csv.specs.Records.{fields_of}
use Rattle.osn_letters.specs.Fields.{day_fields, days_text}
use Rattle.osn_letters.specs.Remarks.{remark_text}
use Rattle.osn_letters.proofs.FieldFacts.{fields_pushed}
use Rattle.osn_letters.proofs.letter.LetterFields.push_to.Goals as goal

pub returns-clause-fields : goal.returns-clause-fields
returns-clause-fields c =
    on_ok_weaker c.push_field-2.result
    (λ e. fields_pushed (fields_of c.args.row.now) _ _ _ _ _ _ _ _ _ _
    (c.in_ok-push_day_fields.ensures.fields
    ∙ ap (λ days. fields_of c.args.row.now ++ map (days_text days) day_fields)
    c.deref.ensures.value)
    c.in_ok-push_summary.ensures.fields
    (c.in_ok-push_field.ensures.fields
    ∙ (ap (λ part. fields_of c.push_summary.new.row ++ (part ++ c.as_bytes.result.now) ∷ [])
    c.in_ok-push_summary.ensures.partial
    ∙ ap (λ text. fields_of c.push_summary.new.row ++ text ∷ []) c.as_bytes.ensures.value))
    c.in_ok-push_decimal.ensures.fields
    (e
    ∙ (ap (λ part. fields_of c.push_decimal.new.row ++ (part ++ c.as_bytes-2.result.now) ∷ [])
    c.in_ok-push_decimal.ensures.partial
    ∙ ap (λ text. fields_of c.push_decimal.new.row ++ text ∷ [])
    (c.as_bytes-2.ensures.value
    ∙ (c.in_ok-remark_text.ensures ∙ ap remark_text c.deref-2.ensures.value)))))
    c.push_field-2.ensures.fields
