pub mod Seen
pub mod Cached
