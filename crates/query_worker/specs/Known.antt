-- The answers that were found while queries are answered.
use Rattle.std.specs.Prelude.{◌≡◌, ◌&&◌, ◌||◌, ◌==◌, ℕ, ◌+◌, ◌*◌, ◌≤◌, Bool, List, Option, Some, is_some, IfSome, if◌then◌else◌}
use Rattle.std.specs.List.{list_any}
use Rattle.std.specs.declared.hash.FoldHasher.{FoldHasher}
use Rattle.std.specs.declared.hash.BuildHasherDefault.{BuildHasherDefault}
use Rattle.std.specs.HashMap.{get, hash_map_len, IsUnique, HashMap}
use Rattle.kr_order.specs.declared.ids.EventId.{EventId}
use Rattle.kr_order.specs.declared.answer.Answer.{Answer}
use Rattle.kr_order.specs.declared.history.Entry.{Entry}
use Rattle.kr_order.specs.Answer.{answer_to}

-- both are one pair
abbrev pub is_pair : ℕ × ℕ → ℕ × ℕ → Bool
is_pair pair other = pair.0 == other.0 && pair.1 == other.1

-- the numbers of the two events
abbrev pub number_of : EventId × EventId → ℕ × ℕ
number_of pair = (pair.0.0, pair.1.0)

-- answers, by pair
abbrev pub Known : Type 0
Known = HashMap (ℕ × ℕ) Answer (BuildHasherDefault FoldHasher)

-- the answer that is known of a pair
abbrev pub known_of : Known → ℕ × ℕ → Option Answer
known_of known pair = get is_pair known pair

-- each is the answer to its pair after the history
pub record AreAnswers (history : List Entry) (known : Known) : Type 0 where
  pub each : (pair : ℕ × ℕ) → IfSome (known_of known pair) (λ answer. answer ≡ answer_to history pair.0 pair.1)
  pub unique : IsUnique is_pair known

-- the new ones are the old ones, and the answer to a pair of which none was known
pub record Learns (pair : ℕ × ℕ) (answer : Answer) (old new : Known) : Type 0 where
  pub found : (other : ℕ × ℕ) →
      known_of new other ≡ (if is_pair pair other then Some answer else known_of old other)
  pub count : hash_map_len new ≡ hash_map_len old + 1
  pub unique : IsUnique is_pair new

-- the new ones are of the pairs of the old ones, and of these
pub record KnowsAlso (pairs : List (ℕ × ℕ)) (old new : Known) : Type 0 where
  pub each : (pair : ℕ × ℕ) →
      is_some (known_of new pair) ≡ (is_some (known_of old pair) || list_any (is_pair pair) pairs)

-- for each answer that was learnt, at most two steps for each of so many events and pairs were taken
pub record IsWithin (size : ℕ) (old new : Known) (before after : ℕ) : Type 0 where
  pub most : after + 2 * size * hash_map_len old ≤ before + 2 * size * hash_map_len new
