pub mod WholeLemmas
pub mod BesideLemmas
