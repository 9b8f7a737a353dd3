pub mod WriteLemmas
mod FlatLemmas
mod QueryLemmas
mod TextLemmas
mod TreeLemmas
mod UnknownLemmas
