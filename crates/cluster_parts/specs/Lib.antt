pub mod BagStanding
pub mod PartsStanding
