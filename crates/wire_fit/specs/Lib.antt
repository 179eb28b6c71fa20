pub mod Spoken
pub mod Runs
