use Rattle.std.proofs.Common.{◌∙◌, ◌++◌, ◌∷◌, [], ap, arith, rules, add-one}
use Rattle.csv.specs.Records.{fields_of}
use Rattle.osn_letters.proofs.FlawFacts.{field_left, none_left}
use Rattle.osn_letters.proofs.csv_text.push_fields.Goals as goal

pub loop-index-preserved : goal.loop-index-preserved
loop-index-preserved c = record {
  fields = field_left (fields_of c.args.from.now) _ _ _ _ c.loop-index.index _ c.args.end
      (omega arith) (add-one c.loop-index.index) c.field_at.ensures
      (c.in_ok-push_field.ensures.fields
      ∙ ap (λ part. fields_of c.loop-index.row ++ ((part ++ c.field_at.result.now) ∷ []))
      c.loop-index.invariant.partial)
      c.loop-index.invariant.fields;
  partial = c.in_ok-push_field.ensures.partial;
}

pub returns-clause-fields : goal.returns-clause-fields
returns-clause-fields c =
    none_left (fields_of c.args.from.now) _ _ c.loop-index.index c.args.end (omega arith)
    c.loop-index.invariant.fields
