pub mod AddLemmas
pub mod KnownLemmas
pub mod StepLemmas
