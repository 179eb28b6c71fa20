pub mod Views
pub mod Log
pub mod Rule
pub mod Copies
pub mod Kinds
