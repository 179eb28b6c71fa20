-- What contracts see of a cache.
use Rattle.std.specs.Prelude.{◌≡◌, ◌≤◌, ◌&&◌, ◌==◌, ℕ, Bool, true, List, length, map}
use Rattle.std.specs.List.{AllByRecursion, IsDistinct}
use Rattle.kr_protocol.specs.Cache.{CacheItem, is_lasting}
use Rattle.order_cache.specs.declared.cache.Seen.{Seen}

-- the items, the most recently used first, and how many there may be
pub record Cached : Type 0 where
  pub items : List CacheItem
  pub capacity : ℕ

-- the item of a pair and of what is seen of it
abbrev pub item_from : (ℕ × ℕ) × Seen → CacheItem
item_from entry =
    record { first = entry.0.0; second = entry.0.1; answer = entry.1.answer; entry = entry.1.entry }

abbrev pub items_of : List ((ℕ × ℕ) × Seen) → List CacheItem
items_of entries = map item_from entries

-- both keys are of one pair
abbrev pub is_key : ℕ × ℕ → ℕ × ℕ → Bool
is_key key other = key.0 == other.0 && key.1 == other.1

-- both items are of one pair
abbrev pub are_alike : CacheItem → CacheItem → Bool
are_alike item other = item.first == other.first && item.second == other.second

-- the lesser event of the pair stands first, and its answer is one that can never change
pub record IsItem (item : CacheItem) : Type 0 where
  pub ordered : item.first ≤ item.second
  pub lasting : is_lasting item.first item.second item.answer ≡ true

-- there may be an item, there are no more than there may be, and no pair stands in two
pub record IsCache (capacity : ℕ) (items : List CacheItem) : Type 0 where
  pub some : 1 ≤ capacity
  pub most : length items ≤ capacity
  pub each : AllByRecursion IsItem items
  pub distinct : IsDistinct are_alike items
