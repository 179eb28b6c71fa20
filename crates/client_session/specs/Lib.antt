pub mod ClientStanding
pub mod Lookups
pub mod Calls
