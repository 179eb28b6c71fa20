pub mod OutsideLemmas
mod RunLemmas
mod LoadLemmas
mod ScriptLemmas
mod LogLemmas
