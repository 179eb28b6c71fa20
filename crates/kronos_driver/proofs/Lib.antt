mod EndsLemmas
mod FormLemmas
mod ImportLemmas
