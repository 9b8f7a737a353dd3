mod Grammar
mod WeekdayFacts
pub mod RunFacts
pub mod OrderFacts
pub mod OneDayFacts
mod SpanFacts
mod UnionFacts
mod NearestFacts
