pub mod Views
pub mod Own
pub mod Commands
pub mod Close
pub mod Lawful
pub mod Calls
pub mod Runs
