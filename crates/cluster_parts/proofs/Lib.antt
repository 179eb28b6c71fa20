mod BagLemmas
pub mod LinesLemmas
mod StartLemmas
