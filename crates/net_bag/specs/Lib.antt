pub mod Sent
pub mod Index
pub mod Segments
pub mod Kept
