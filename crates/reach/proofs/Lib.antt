pub mod MemberLemmas
pub mod FoundLemmas
pub mod CellLemmas
pub mod WalkLemmas
pub mod EndLemmas
pub mod TrailLemmas
