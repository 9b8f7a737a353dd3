pub mod FileLemmas
pub mod ReportLemmas
