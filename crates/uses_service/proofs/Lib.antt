mod SharedLemmas
