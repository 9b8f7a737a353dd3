pub mod NameLemmas
pub mod NumberLemmas
pub mod TextLemmas
pub mod GrammarLemmas
pub mod RowLemmas
