pub mod Finds
pub mod Search
pub mod Trails
pub mod Walk
