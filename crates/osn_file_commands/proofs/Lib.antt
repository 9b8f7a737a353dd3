pub mod EditLemmas
pub mod EntryLemmas
pub mod FollowLemmas
pub mod AuditLawLemmas
mod AuditReadLemmas
pub mod FailLemmas
pub mod LineLemmas
