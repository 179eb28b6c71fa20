mod KnownLemmas
mod RunLemmas
