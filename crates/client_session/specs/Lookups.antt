-- Pairs that are looked up, or answered, one after the other.
use Rattle.std.specs.Prelude.{◌≡◌, ℕ, List, [], ◌∷◌, ◌++◌, if◌then◌else◌, Option, None, Some}
use Rattle.kr_order.specs.declared.ids.EventId.{EventId}
use Rattle.kr_order.specs.declared.answer.Answer.{Answer}
use Rattle.kr_order.specs.declared.answer.Teller.{Teller}
use Rattle.kr_order.specs.declared.answer.ToldPart.{ToldPart}
use Rattle.kr_protocol.specs.Cache.{CacheItem, CacheAnswer}
use Rattle.kr_protocol.specs.Client.{Looked, cached_part, is_unsure}

-- what is told of a pair that was found comes behind these
abbrev pub part_behind : List ToldPart → ℕ → EventId × EventId → Option CacheAnswer → List ToldPart
part_behind parts q pair None = parts
part_behind parts q pair (Some told) = parts ++ cached_part q pair told ∷ []

-- a pair that was not found comes behind these
abbrev pub left_behind : List (EventId × EventId) → EventId × EventId → Option CacheAnswer → List (EventId × EventId)
left_behind left pair None = left ++ pair ∷ []
left_behind left pair (Some told) = left

-- what is told of an answer comes behind these, where it is sure
abbrev pub told_behind : List ToldPart → ℕ → ℕ → Teller → EventId × EventId → Answer → List ToldPart
told_behind parts q entry by pair answer =
    if is_unsure answer then parts else parts ++ record { q = q; a = pair.0; b = pair.1; answer = answer; entry = entry; by = by } ∷ []

-- its pair comes behind these where it is not
abbrev pub unsure_behind : List (EventId × EventId) → EventId × EventId → Answer → List (EventId × EventId)
unsure_behind left pair answer = if is_unsure answer then left ++ pair ∷ [] else left

-- the parts that are told, the pairs that are left and the cache's items are those
pub record is_looked (parts : List ToldPart) (left : List (EventId × EventId)) (items : List CacheItem) (looked : Looked) : Type 0 where
  pub parts_are : parts ≡ looked.parts
  pub left_are : left ≡ looked.left
  pub items_are : items ≡ looked.cache
