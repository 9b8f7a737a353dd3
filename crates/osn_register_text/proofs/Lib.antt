pub mod ChangeLemmas
pub mod MemberLemmas
pub mod NumberLemmas
mod FoundTerritories
mod TextSteps
mod PlainText
mod Expressions
mod JoinedLines
mod WrittenLines
mod WrittenTerritories
mod TableNodes
mod TerritoryNodes
mod TableMembers
mod SortedTerritories
mod Documents
mod ReadDates
mod ReadTables
mod MadeSources
mod EditParts
mod ReadEdits
mod ReadBack
pub mod Lawful
pub mod Rows
pub mod Regimes
pub mod ChangeFacts
pub mod SourceRows
pub mod NeededChanges
pub mod Fresh
pub mod Passes
pub mod YearPasses
pub mod TerritoryDifferences
pub mod StartSources
pub mod DaySources
pub mod SourceDifferences
pub mod CodeLookups
pub mod Valid
pub mod TargetTerritories
pub mod EditOrder
pub mod AscendingCodes
pub mod PlanFacts
pub mod Places
pub mod EditTrials
pub mod NameTests
pub mod ChangeEdits
pub mod Whole
pub mod PlaceFacts
