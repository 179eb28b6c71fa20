pub mod Exits
pub mod Outside
pub mod Due
pub mod EndsOn
pub mod Runs
pub mod Loads
pub mod Logs
