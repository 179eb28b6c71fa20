pub mod NeededLemmas
pub mod RootLemmas
pub mod WaitingLemmas
pub mod CountLemmas
