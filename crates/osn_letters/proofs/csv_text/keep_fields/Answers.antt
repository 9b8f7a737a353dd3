use Rattle.std.proofs.Common.{◌≡◌, ◌∙◌, ◌<◌, ◌≤◌, ◌⊎◌, inl, inr, []}
use Rattle.std.proofs.lemmas.Bool.{cases_lt}
use Rattle.csv.specs.Records.{field_count, partial_of}
use Rattle.osn_letters.proofs.csv_text.keep_fields.Goals as goal

pub returns-clause-partial : goal.returns-clause-partial
returns-clause-partial c = by (cases_lt c.args.count (field_count c.args.row.now))
  where
    by : (c.args.count < field_count c.args.row.now) ⊎ (field_count c.args.row.now ≤ c.args.count)
        → partial_of c.truncate.new.self ≡ []
    by (inl fewer) = c.truncate.ensures.partial.0 fewer
    by (inr all) = c.truncate.ensures.partial.1 all ∙ c.requires
