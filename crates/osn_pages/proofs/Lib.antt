pub mod LawFacts
pub mod GridFacts
mod MonthFacts
mod PeriodFacts
mod YearFacts
pub mod Text
mod AlmanacYearFacts
