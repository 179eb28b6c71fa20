mod RingLemmas
mod NodeLemmas
mod ToldLemmas
mod ChainLemmas
