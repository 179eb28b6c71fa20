mod ItemLemmas
mod EntryLemmas
