use Rattle.std.proofs.Common.{◌≡◌, [], ap, ◌∙◌, map}
use Rattle.osn_territory.specs.JulianCalendar.{in_julian_calendar, by_julian}
use Rattle.osn_territory.specs.PeriodList.{start_of}
use Rattle.osn_territory.proofs.JulianFacts.{covers_of, starts_of}
use Rattle.osn_territory.proofs.territory.Territory.in_julian_calendar.Goals as goal

pub invariant_of-result : goal.invariant_of-result
invariant_of-result c = covers_of c.in_ok-julian_periods.field-0.items c.as_slice.result.now
    c.self.inside.periods.items c.in_ok-julian_periods.ensures c.as_slice.ensures.value
    c.self.invariant

pub returns : goal.returns
returns c =
    let starts : map start_of c.in_ok-julian_periods.field-0.items
    ≡ map (λ s. (s.0, by_julian s.1)) (map start_of c.self.inside.periods.items) =
    starts_of c.in_ok-julian_periods.field-0.items c.as_slice.result.now
    c.self.inside.periods.items c.in_ok-julian_periods.ensures c.as_slice.ensures.value in
    ap (λ entries. record {
      starts = map start_of c.in_ok-julian_periods.field-0.items;
      exceptions = entries;
    }) c.new.ensures.empty
    ∙ ap (λ starts. record { starts = starts; exceptions = [] }) starts
    ∙ ap in_julian_calendar c.self.view_is
