pub mod KnownFigures
pub mod WalkFacts
pub mod TableFacts
pub mod MoonFacts
pub mod PlaceFacts
pub mod LetterFacts
pub mod EarlierEasters
pub mod EarlierLetters
