pub mod LineLemmas
pub mod NumberLemmas
pub mod WordLemmas
pub mod PairLemmas
pub mod EventLemmas
pub mod KindLemmas
pub mod SizeLemmas
pub mod ScriptLemmas
mod Spellings
pub mod LiveLemmas
pub mod LiveLineLemmas
mod LiveSpellings
pub mod PrintLemmas
pub mod ChainLemmas
pub mod ChainLineLemmas
mod ChainSpellings
