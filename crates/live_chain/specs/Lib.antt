pub mod Lawful
pub mod Rings
pub mod Nodes
pub mod Tellers
pub mod Stages
