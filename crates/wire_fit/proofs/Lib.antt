pub mod ViewLemmas
pub mod ReplyLemmas
pub mod SendLemmas
pub mod ServerLemmas
pub mod ClientLemmas
pub mod StepLemmas
pub mod SpokenLemmas
pub mod RunLemmas
