pub mod Causes
pub mod Memory
pub mod Number
pub mod Reads
pub mod Writes
