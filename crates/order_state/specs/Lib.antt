pub mod Ordered
pub mod Decision
pub mod Standing
pub mod Kept
