pub mod ResultLemmas
pub mod KeptFileLemmas
pub mod KeepLemmas
pub mod UpgradeLemmas
pub mod SaveLemmas
pub mod TargetLemmas
mod ModeLemmas
