pub mod Grammar
pub mod Invocation
pub mod Completions
