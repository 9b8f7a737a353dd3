pub mod Rules
pub mod Line
pub mod Chain
pub mod Weekday
pub mod Month
pub mod Keyword
pub mod CalendarWords
pub mod DateText
