pub mod BitLemmas
pub mod KeptLemmas
pub mod SegmentLemmas
