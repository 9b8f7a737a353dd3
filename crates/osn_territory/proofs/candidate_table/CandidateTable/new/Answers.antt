use Rattle.std.proofs.Common.{◌≡◌, is_some, arith}
use Rattle.osn_days.specs.declared.calendar.Calendar.TheVariants.{Julian, Gregorian, Swedish}
use Rattle.osn_territory.specs.declared.candidate_table.CandidateTable.{CandidateTable}
use Rattle.osn_territory.specs.LabelSearch.{years_of, is_used}
use Rattle.osn_territory.proofs.SearchFacts.{all_known, three_for_each}
use Rattle.osn_territory.proofs.candidate_table.CandidateTable.new.Goals as goal

pub returns-clause-known : goal.returns-clause-known
returns-clause-known c =
    let t : CandidateTable = record {
      julian = c.used_days.result;
      gregorian = c.used_days-2.result;
      swedish = c.used_days-3.result;
    } in
    all_known t c.args.periods.now (λ d. elim d as (λ e. is_some (years_of t e)
    ≡ is_used e c.args.periods.now) [
      | Julian ↦ c.used_days.ensures.used
      | Gregorian ↦ c.used_days-2.ensures.used
      | Swedish ↦ c.used_days-3.ensures.used
    ])

pub returns-clause-tested : goal.returns-clause-tested
returns-clause-tested c =
    let each = three_for_each c.args.periods.now in
    omega (
      arith,
      each,
      c.requires,
      c.used_days.ensures.tested,
      c.used_days-2.ensures.tested,
      c.used_days-3.ensures.tested,
    )
