pub mod ServerStanding
pub mod Whole
pub mod Parts
pub mod Calls
