pub mod LogLemmas
pub mod RuleLemmas
