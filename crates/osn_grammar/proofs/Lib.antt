mod Digits
mod LanguageFacts
mod NameFacts
mod Scanned
pub mod TextFacts
pub mod TokenFacts
pub mod FormFacts
pub mod WordFacts
mod DigitLaw
mod SetFacts
mod RefusedFacts
pub mod SetLaw
pub mod LawFacts
pub mod WordsLaw
mod DualLaw
mod Meant
