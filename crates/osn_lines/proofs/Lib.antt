pub mod ByteLemmas
pub mod FeedLemmas
pub mod LineLemmas
pub mod TakeLemmas
pub mod InputLemmas
pub mod EndedLemmas
pub mod EscapedLemmas
