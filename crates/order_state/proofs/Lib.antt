pub mod TwinLemmas
pub mod HeldLemmas
pub mod TellLemmas
pub mod OrderLemmas
pub mod FitLemmas
pub mod StateLemmas
