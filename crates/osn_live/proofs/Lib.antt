pub mod Prefixes
pub mod BatchAddition
pub mod OneRule
pub mod ReplyLemmas
pub mod AtWork
pub mod Hears
