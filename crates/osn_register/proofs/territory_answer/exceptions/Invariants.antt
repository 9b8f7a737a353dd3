use Rattle.std.proofs.Common.{◌≡◌, ◌++◌, Some, map}
use Rattle.osn_days.specs.Rules.{newest_rules}
use Rattle.osn_register.specs.Answer.{exception_on}
use Rattle.osn_register.specs.Inside.{sources_in}
use Rattle.osn_register.proofs.territory_answer.exceptions.Given as goal

-- the Easters that are left are still to come
abbrev pub invariant-loop-year : goal.invariant-loop-year
invariant-loop-year l =
    map (exception_on newest_rules l.territory (Some (sources_in l.sources)))
    l.territory.exceptions
    ≡ l.list.items ++ map (exception_on newest_rules l.territory (Some (sources_in l.sources)))
    l.year-iterator
