pub mod ListLemmas
pub mod NameLemmas
pub mod EvolveLemmas
pub mod TimelineLemmas
pub mod NeighbourLemmas
pub mod NextLemmas
pub mod Repeats
