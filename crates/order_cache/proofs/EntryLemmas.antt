-- The entries of the kit's cache, as items: what a look finds and leaves, and what a put leaves.
use Rattle.std.proofs.Common.{◌≡◌, ◌≤◌, ◌-◌, ℕ, zero, suc, true, false, not, cond, eqb, min, max, List, [], ◌∷◌, length, take, refl, sym, ap, ◌∙◌, subst, sub-one, arith}
use Rattle.std.specs.Prelude.{Option, None, Some, is_some, option_map, IfSome}
use Rattle.std.specs.List.{IsDistinct}
use Rattle.std.specs.Option.{option_map_or}
use Rattle.std.specs.Map.{lookup, lookup_entry, remove_entry}
use Rattle.std.proofs.lemmas.Bool.{and_parts, eqb-true}
use Rattle.std.proofs.lemmas.List.{take_all, take-map}
use Rattle.lru.specs.LruCache.{LruCache, lru_cache, promoted, put_entries}
use Rattle.kr_protocol.specs.Cache.{CacheItem, finds, others, is_lasting, seen_from, looks_at, looks_up, item_of, remembers}
use Rattle.order_cache.specs.declared.cache.Seen.{Seen}
use Rattle.order_cache.specs.Seen.{answer_of, turned}
use Rattle.order_cache.specs.Cached.{item_from, items_of, is_key, are_alike, IsCache}
use Rattle.order_cache.proofs.ItemLemmas.{AreOthers-apart, AreOthers-none, others_all, is_of-found, IsItem-found, is_lasting-found, length-others-found, IsCache-looks_up, IsCache-remembers}

-- the key of a pair
abbrev pub key_from : ℕ → ℕ → ℕ × ℕ
key_from a b = (min a b, max a b)

-- the item of the pair is that of the entry with its key
pub finds-items : (a b : ℕ) (entries : List ((ℕ × ℕ) × Seen)) →
    finds (items_of entries) a b ≡ option_map item_from (lookup_entry (is_key (key_from a b)) entries)
finds-items a b [] = refl
finds-items a b (entry ∷ entries) =
    elim (is_key (key_from a b) entry.0) as (λ is. cond is (Some (item_from entry)) (finds (items_of entries) a b) ≡
    option_map item_from (cond is (Some entry) (lookup_entry (is_key (key_from a b)) entries))) [
      | true ↦ refl
      | false ↦ finds-items a b entries
    ]

-- the items of other pairs are those of the other entries
pub others-items : (a b : ℕ) (entries : List ((ℕ × ℕ) × Seen)) → IsDistinct are_alike (items_of entries) →
    others (items_of entries) a b ≡ items_of (remove_entry (is_key (key_from a b)) entries)
unfolding IsDistinct
others-items a b [] distinct = refl
others-items a b (entry ∷ entries) distinct =
    (elim (is_key (key_from a b) entry.0) as (λ is. is_key (key_from a b) entry.0 ≡ is →
    cond (not is) (item_from entry ∷ others (items_of entries) a b) (others (items_of entries) a b) ≡
    items_of (cond is entries (entry ∷ remove_entry (is_key (key_from a b)) entries))) [
      | true ↦ λ is. others_all a b (items_of entries) (AreOthers-apart a b (item_from entry) (items_of entries) is distinct.0)
      | false ↦ λ _. ap (λ l. item_from entry ∷ l) (others-items a b entries distinct.1)
    ]) refl

-- what a look-up finds is in the entry that it finds
lookup-entry : (key : ℕ × ℕ) (entries : List ((ℕ × ℕ) × Seen)) →
    lookup (is_key key) entries ≡ option_map (λ entry. entry.1) (lookup_entry (is_key key) entries)
lookup-entry key [] = refl
lookup-entry key (entry ∷ entries) =
    elim (is_key key entry.0) as (λ is. cond is (Some entry.1) (lookup (is_key key) entries) ≡
    option_map (λ entry. entry.1) (cond is (Some entry) (lookup_entry (is_key key) entries))) [
      | true ↦ refl
      | false ↦ lookup-entry key entries
    ]

-- the items after a look
pub items_of-promoted : (a b : ℕ) (entries : List ((ℕ × ℕ) × Seen)) → IsDistinct are_alike (items_of entries) →
    items_of (promoted (is_key (key_from a b)) entries) ≡ (looks_up (items_of entries) a b).after
items_of-promoted a b entries distinct =
    by_found (lookup_entry (is_key (key_from a b)) entries) ∙
    ap (λ found. (looks_at (items_of entries) a b found).after) (sym (finds-items a b entries))
  where
    by_found : (found : Option ((ℕ × ℕ) × Seen)) →
        items_of (option_map_or (λ entry. entry ∷ remove_entry (is_key (key_from a b)) entries) found entries) ≡
        (looks_at (items_of entries) a b (option_map item_from found)).after
    by_found None = refl
    by_found (Some entry) = ap (λ l. item_from entry ∷ l) (sym (others-items a b entries distinct))

-- what a look tells
pub told-lookup : (a b : ℕ) (entries : List ((ℕ × ℕ) × Seen)) →
    option_map answer_of (option_map (turned a b) (lookup (is_key (key_from a b)) entries)) ≡ (looks_up (items_of entries) a b).told
told-lookup a b entries =
    ap (λ seen. option_map answer_of (option_map (turned a b) seen)) (lookup-entry (key_from a b) entries) ∙
    by_found (lookup_entry (is_key (key_from a b)) entries) ∙
    ap (λ found. (looks_at (items_of entries) a b found).told) (sym (finds-items a b entries))
  where
    by_found : (found : Option ((ℕ × ℕ) × Seen)) →
        option_map answer_of (option_map (turned a b) (option_map (λ entry. entry.1) found)) ≡
        (looks_at (items_of entries) a b (option_map item_from found)).told
    by_found None = refl
    by_found (Some entry) = refl

-- a look finds where the pair is an item
pub is_some-lookup : (a b : ℕ) (entries : List ((ℕ × ℕ) × Seen)) →
    is_some (lookup (is_key (key_from a b)) entries) ≡ is_some (finds (items_of entries) a b)
is_some-lookup a b entries =
    ap is_some (lookup-entry (key_from a b) entries) ∙ by_found (lookup_entry (is_key (key_from a b)) entries) ∙
    ap is_some (sym (finds-items a b entries))
  where
    by_found : (found : Option ((ℕ × ℕ) × Seen)) →
        is_some (option_map (λ entry. entry.1) found) ≡ is_some (option_map item_from found)
    by_found None = refl
    by_found (Some entry) = refl

-- what a look tells is lasting
pub lasting-lookup : (capacity a b : ℕ) (entries : List ((ℕ × ℕ) × Seen)) (seen : Seen) →
    IsCache capacity (items_of entries) → lookup (is_key (key_from a b)) entries ≡ Some seen →
    is_lasting a b (seen_from a b seen.answer) ≡ true
lasting-lookup capacity a b entries seen cache is =
    by_found (lookup_entry (is_key (key_from a b)) entries) (sym (finds-items a b entries)) (sym (lookup-entry (key_from a b) entries) ∙ is)
  where
    by_found : (found : Option ((ℕ × ℕ) × Seen)) → option_map item_from found ≡ finds (items_of entries) a b →
        option_map (λ entry. entry.1) found ≡ Some seen → is_lasting a b (seen_from a b seen.answer) ≡ true
    by_found None finds is = cc
    by_found (Some entry) here is =
        let same : entry.1 ≡ seen = cc in
        let one = IsItem-found a b (items_of entries) (item_from entry) (sym here) cache.each in
        let of = is_of-found a b (items_of entries) (item_from entry) (sym here) in
        subst (λ s. is_lasting a b (seen_from a b s.answer) ≡ true) same (is_lasting-found a b (item_from entry) of one)

-- a front of a list with one more item before it
take-front : (n : ℕ) (item : CacheItem) (items : List CacheItem) → 1 ≤ n → take n (item ∷ items) ≡ item ∷ take (n - 1) items
take-front zero item items some = absurd (omega arith)
take-front (suc n) item items some = rw sub-one

-- the items after a put
pub items_of-put : (a b : ℕ) (seen : Seen) (cache : LruCache (ℕ × ℕ) Seen) → IsCache cache.cap (items_of cache.entries) →
    items_of (put_entries is_key cache (key_from a b) (turned a b seen)) ≡
    remembers cache.cap (items_of cache.entries) a b seen.answer seen.entry
items_of-put a b seen cache is = by_found (lookup_entry (is_key (key_from a b)) cache.entries) (sym (finds-items a b cache.entries))
  where
    items : List CacheItem
    items = items_of cache.entries

    item : CacheItem
    item = item_of a b seen.answer seen.entry

    left : List ((ℕ × ℕ) × Seen)
    left = remove_entry (is_key (key_from a b)) cache.entries

    by_found : (found : Option ((ℕ × ℕ) × Seen)) → option_map item_from found ≡ finds (items_of cache.entries) a b →
        items_of (option_map_or (λ entry. (entry.0, turned a b seen) ∷ remove_entry (is_key (key_from a b)) cache.entries) found
        ((key_from a b, turned a b seen) ∷ take (cache.cap - 1) cache.entries)) ≡
        remembers cache.cap (items_of cache.entries) a b seen.answer seen.entry
    by_found None none =
        let all = others_all a b items (AreOthers-none a b items (sym none)) in
        ap (λ l. item ∷ l) (sym (take-map item_from (cache.cap - 1) cache.entries)) ∙
        sym (take-front cache.cap item items is.some) ∙ ap (λ l. take cache.cap (item ∷ l)) (sym all)
    by_found (Some entry) here =
        let of = is_of-found a b items (item_from entry) (sym here) in
        let both = and_parts (eqb (min a b) entry.0.0) (eqb (max a b) entry.0.1) of in
        let first : entry.0.0 ≡ min a b = sym (eqb-true (min a b) entry.0.0 both.0) in
        let second : entry.0.1 ≡ max a b = sym (eqb-true (max a b) entry.0.1 both.1) in
        let fits : length (item ∷ others items a b) ≤ cache.cap =
        omega (arith, length-others-found a b items (item_from entry) (sym here), is.most) in
        ap (λ n. record item { first = n; second = entry.0.1 } ∷ items_of left) first ∙
        ap (λ n. record item { second = n } ∷ items_of left) second ∙
        ap (λ l. item ∷ l) (sym (others-items a b cache.entries is.distinct)) ∙
        sym (take_all cache.cap (item ∷ others items a b) fits)

-- what a look leaves of a cache, and what it tells
pub record Looks (a b : ℕ) (old new : LruCache (ℕ × ℕ) Seen) (found : Option Seen) : Type 0 where
  pub cache : IsCache new.cap (items_of new.entries)
  pub capacity : new.cap ≡ old.cap
  pub items : items_of new.entries ≡ (looks_up (items_of old.entries) a b).after
  pub told : option_map answer_of (option_map (turned a b) found) ≡ (looks_up (items_of old.entries) a b).told
  pub none : is_some (option_map (turned a b) found) ≡ is_some (finds (items_of old.entries) a b)
  pub lasting : IfSome (option_map (turned a b) found) (λ seen. is_lasting a b seen.answer ≡ true)

-- what a look with the pair's key leaves and tells
looks_from : (a b : ℕ) (old : LruCache (ℕ × ℕ) Seen) → IsCache old.cap (items_of old.entries) →
    Looks a b old (lru_cache (promoted (is_key (key_from a b)) old.entries) old.cap) (lookup (is_key (key_from a b)) old.entries)
looks_from a b old cache =
    let items = items_of-promoted a b old.entries cache.distinct in
    record {
      cache = subst (IsCache old.cap) (sym items) (IsCache-looks_up old.cap a b (items_of old.entries) cache);
      capacity = refl;
      items = items;
      told = told-lookup a b old.entries;
      none = is_some-turned (lookup (is_key (key_from a b)) old.entries) ∙ is_some-lookup a b old.entries;
      lasting = by_found (lookup (is_key (key_from a b)) old.entries) refl;
    }
  where
    is_some-turned : (found : Option Seen) → is_some (option_map (turned a b) found) ≡ is_some found
    is_some-turned None = refl
    is_some-turned (Some seen) = refl

    by_found : (found : Option Seen) → lookup (is_key (key_from a b)) old.entries ≡ found →
        IfSome (option_map (turned a b) found) (λ seen. is_lasting a b seen.answer ≡ true)
    by_found None none = tt
    by_found (Some seen) found = lasting-lookup old.cap a b old.entries seen cache found

pub looks : (a b : ℕ) (old new : LruCache (ℕ × ℕ) Seen) (found : Option Seen) (key : ℕ × ℕ) → key ≡ key_from a b →
    found ≡ lookup (is_key key) old.entries → new ≡ lru_cache (promoted (is_key key) old.entries) old.cap →
    IsCache old.cap (items_of old.entries) → Looks a b old new found
looks a b old new found key pair is after cache =
    let is' : found ≡ lookup (is_key (key_from a b)) old.entries = is ∙ ap (λ k. lookup (is_key k) old.entries) pair in
    let after' : new ≡ lru_cache (promoted (is_key (key_from a b)) old.entries) old.cap =
    after ∙ ap (λ k. lru_cache (promoted (is_key k) old.entries) old.cap) pair in
    subst (Looks a b old new) (sym is')
    (subst (λ n. Looks a b old n (lookup (is_key (key_from a b)) old.entries)) (sym after') (looks_from a b old cache))

-- and what a put leaves
pub record Puts (a b : ℕ) (seen : Seen) (old new : LruCache (ℕ × ℕ) Seen) : Type 0 where
  pub cache : IsCache new.cap (items_of new.entries)
  pub capacity : new.cap ≡ old.cap
  pub items : items_of new.entries ≡ remembers old.cap (items_of old.entries) a b seen.answer seen.entry

puts_from : (a b : ℕ) (seen : Seen) (old : LruCache (ℕ × ℕ) Seen) → is_lasting a b seen.answer ≡ true →
    IsCache old.cap (items_of old.entries) →
    Puts a b seen old (lru_cache (put_entries is_key old (key_from a b) (turned a b seen)) old.cap)
puts_from a b seen old lasting cache =
    let items = items_of-put a b seen old cache in
    record {
      cache = subst (IsCache old.cap) (sym items)
          (IsCache-remembers old.cap a b seen.answer seen.entry (items_of old.entries) lasting cache);
      capacity = refl;
      items = items;
    }

pub puts : (a b : ℕ) (seen : Seen) (old new : LruCache (ℕ × ℕ) Seen) (key : ℕ × ℕ) (kept : Seen) →
    key ≡ key_from a b → kept ≡ turned a b seen → new ≡ lru_cache (put_entries is_key old key kept) old.cap →
    is_lasting a b seen.answer ≡ true → IsCache old.cap (items_of old.entries) → Puts a b seen old new
puts a b seen old new key kept pair is after lasting cache =
    let by_pair = ap (λ k. lru_cache (put_entries is_key old k kept) old.cap) pair in
    let by_kept = ap (λ k. lru_cache (put_entries is_key old (key_from a b) k) old.cap) is in
    subst (Puts a b seen old) (sym (after ∙ by_pair ∙ by_kept)) (puts_from a b seen old lasting cache)

-- a cache without items
pub IsCache-empty : (capacity : ℕ) → 1 ≤ capacity → IsCache capacity []
unfolding IsDistinct
IsCache-empty capacity some = record { some = some; most = omega arith; each = tt; distinct = tt }
