pub mod TotalLemmas
pub mod StandingLemmas
pub mod HolderLemmas
pub mod KeepLemmas
pub mod EndLemmas
pub mod SeatLemmas
