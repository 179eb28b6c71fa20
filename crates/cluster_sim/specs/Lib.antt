pub mod Parts
pub mod ClusterStanding
pub mod Steps
