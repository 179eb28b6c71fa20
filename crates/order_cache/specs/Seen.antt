-- What is seen of a pair.
use Rattle.std.specs.Prelude.{ℕ}
use Rattle.kr_protocol.specs.Cache.{CacheAnswer, seen_from}
use Rattle.order_cache.specs.declared.cache.Seen.{Seen}

-- as the definitions of a client have it
abbrev pub answer_of : Seen → CacheAnswer
answer_of seen = record { answer = seen.answer; entry = seen.entry }

-- from what is seen of a pair to what is seen of the pair with the lesser event first, and back
abbrev pub turned : ℕ → ℕ → Seen → Seen
turned a b seen = record { answer = seen_from a b seen.answer; entry = seen.entry }
