-- The answers that a client keeps to tell them again: a list of items, the most recently used first.
use Rattle.std.specs.Prelude.{Bool, false, not, ◌&&◌, ℕ, ◌==◌, min, max, nat_le, take, find, if◌then◌else◌, List, ◌∷◌, Option, None, Some}
use Rattle.std.specs.List.{filter}
use Rattle.kr_order.specs.declared.answer.Answer.{Answer}
use Rattle.kr_order.specs.declared.answer.Answer.TheVariants.{Before, After, Same, Concurrent, Unknown, Unsure}

-- one item: a pair of events, the lesser number first, how the first stands to the second, and how many entries the
-- history had for which that was told
pub record CacheItem : Type 0 where
  pub first : ℕ
  pub second : ℕ
  pub answer : Answer
  pub entry : ℕ

-- what an item tells of a pair
pub record CacheAnswer : Type 0 where
  pub answer : Answer
  pub entry : ℕ

-- how the second event stands to the first
abbrev pub mirror : Answer → Answer
mirror Before = After
mirror After = Before
mirror Same = Same
mirror Concurrent = Concurrent
mirror Unknown = Unknown
mirror Unsure = Unsure

-- the answer can be given to these two events, and can never change
abbrev pub is_lasting : ℕ → ℕ → Answer → Bool
is_lasting a b Before = not (a == b)
is_lasting a b After = not (a == b)
is_lasting a b Same = a == b
is_lasting a b Concurrent = false
is_lasting a b Unknown = false
is_lasting a b Unsure = false

-- the item is of the pair or of its mirror
abbrev pub is_of : ℕ → ℕ → CacheItem → Bool
is_of a b item = min a b == item.first && max a b == item.second

-- the item of the pair or of its mirror, if there is one
abbrev pub finds : List CacheItem → ℕ → ℕ → Option CacheItem
finds cache a b = find (is_of a b) cache

-- the items of other pairs
abbrev pub others : List CacheItem → ℕ → ℕ → List CacheItem
others cache a b = filter (λ item. not (is_of a b item)) cache

-- from the answer to a pair that to the pair with the lesser number first, and back
abbrev pub seen_from : ℕ → ℕ → Answer → Answer
seen_from a b answer = if nat_le a b then answer else mirror answer

-- what a look finds, and the cache afterwards
pub record CacheLook : Type 0 where
  pub told : Option CacheAnswer
  pub after : List CacheItem

-- a hit is told, and comes first
abbrev pub looks_at : List CacheItem → ℕ → ℕ → Option CacheItem → CacheLook
looks_at cache a b None = record { told = None; after = cache }
looks_at cache a b (Some item) =
    record { told = Some (record { answer = seen_from a b item.answer; entry = item.entry }); after = item ∷ others cache a b }

-- the pair is looked for
abbrev pub looks_up : List CacheItem → ℕ → ℕ → CacheLook
looks_up cache a b = looks_at cache a b (finds cache a b)

-- the item of a pair with this answer
abbrev pub item_of : ℕ → ℕ → Answer → ℕ → CacheItem
item_of a b answer entry = record { first = min a b; second = max a b; answer = seen_from a b answer; entry = entry }

-- the answer to the pair comes first, in place of an older one, and the last item goes where there are too many
abbrev pub remembers : ℕ → List CacheItem → ℕ → ℕ → Answer → ℕ → List CacheItem
remembers capacity cache a b answer entry = take capacity (item_of a b answer entry ∷ others cache a b)
