pub mod Calm
pub mod CalmRows
