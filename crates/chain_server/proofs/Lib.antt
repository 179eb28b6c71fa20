pub mod AppliedLemmas
pub mod ReplyLemmas
pub mod HeedLemmas
pub mod AdvanceLemmas
pub mod RequestLemmas
pub mod Asked
pub mod AckLemmas
