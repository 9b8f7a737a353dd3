pub mod FileLemmas
pub mod TurnLemmas
pub mod LoadFacts
pub mod VersionFacts
mod ReadLemmas
mod QuestionLemmas
mod QuestionListLemmas
mod ByteFacts
mod TextFacts
mod EditFacts
mod CommandFacts
mod SaysFacts
mod LawFacts
mod Utf8Facts
mod OldFacts
mod NewerFacts
mod RuleFacts
mod GreaterFacts
mod Greater
mod LastLineLemmas
