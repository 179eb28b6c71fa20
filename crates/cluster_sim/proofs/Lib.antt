mod FitLemmas
pub mod PartsLemmas
mod RefusalLemmas
pub mod ClusterLemmas
mod RoundLemmas
mod ViewLemmas
pub mod StartLemmas
