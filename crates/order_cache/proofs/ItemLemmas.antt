-- The items of other pairs, and what holds of the items of a cache after a look and after a put.
use Rattle.std.proofs.Common.{◌≡◌, ◌<◌, ◌≤◌, ◌+◌, ℕ, zero, suc, Bool, true, false, not, ◌&&◌, cond, eqb, leb, min, max, List, [], ◌∷◌, length, take, refl, sym, ap, ◌∙◌, subst, arith}
use Rattle.std.specs.Prelude.{Option, None, Some}
use Rattle.std.specs.Cmp.{nat_eq_equiv}
use Rattle.std.specs.List.{AllByRecursion, IsDistinct, filter}
use Rattle.std.proofs.lemmas.Bool.{and_parts, eqb-true, leb-true, leb-false}
use Rattle.std.proofs.lemmas.List.{length-take, take_all}
use Rattle.kr_order.specs.declared.answer.Answer.{Answer}
use Rattle.kr_order.specs.declared.answer.Answer.TheVariants.{Before, After, Same, Concurrent, Unknown, Unsure}
use Rattle.kr_protocol.specs.Cache.{CacheItem, mirror, is_lasting, is_of, finds, others, seen_from, looks_at, looks_up, item_of, remembers}
use Rattle.order_cache.specs.Cached.{are_alike, IsItem, IsCache}

-- an item of the pair is like those items that are of the pair
is_of-alike : (a b : ℕ) (item other : CacheItem) → is_of a b item ≡ true → is_of a b other ≡ are_alike item other
is_of-alike a b item other is =
    let both = and_parts (eqb (min a b) item.first) (eqb (max a b) item.second) is in
    let first : min a b ≡ item.first = eqb-true (min a b) item.first both.0 in
    let second : max a b ≡ item.second = eqb-true (max a b) item.second both.1 in
    ap (λ n. eqb n other.first && eqb (max a b) other.second) first ∙
    ap (λ n. eqb item.first other.first && eqb n other.second) second

module _ {X : Type 0} (P : X → Type 0) where
  pub AllByRecursion-filter : (p : X → Bool) (xs : List X) → AllByRecursion P xs → AllByRecursion P (filter p xs)
  AllByRecursion-filter p [] all = tt
  AllByRecursion-filter p (x ∷ xs) all =
      (elim (p x) as (λ passes. AllByRecursion P (cond passes (x ∷ filter p xs) (filter p xs))) [
        | true ↦ (all.0, AllByRecursion-filter p xs all.1)
        | false ↦ AllByRecursion-filter p xs all.1
      ])

  pub AllByRecursion-take : (n : ℕ) (xs : List X) → AllByRecursion P xs → AllByRecursion P (take n xs)
  AllByRecursion-take zero xs all = tt
  AllByRecursion-take (suc n) [] all = tt
  AllByRecursion-take (suc n) (x ∷ xs) all = (all.0, AllByRecursion-take n xs all.1)

module _ {X : Type 0} (eq : X → X → Bool) where
  IsDistinct-filter : (p : X → Bool) (xs : List X) → IsDistinct eq xs → IsDistinct eq (filter p xs)
  unfolding IsDistinct
  IsDistinct-filter p [] distinct = tt
  IsDistinct-filter p (x ∷ xs) distinct =
      (elim (p x) as (λ passes. IsDistinct eq (cond passes (x ∷ filter p xs) (filter p xs))) [
        | true ↦ (AllByRecursion-filter (λ y. eq x y ≡ false) p xs distinct.0, IsDistinct-filter p xs distinct.1)
        | false ↦ IsDistinct-filter p xs distinct.1
      ])

  IsDistinct-take : (n : ℕ) (xs : List X) → IsDistinct eq xs → IsDistinct eq (take n xs)
  unfolding IsDistinct
  IsDistinct-take zero xs distinct = tt
  IsDistinct-take (suc n) [] distinct = tt
  IsDistinct-take (suc n) (x ∷ xs) distinct =
      (AllByRecursion-take (λ y. eq x y ≡ false) n xs distinct.0, IsDistinct-take n xs distinct.1)

-- none of the items is of the pair
abbrev pub AreOthers : ℕ → ℕ → List CacheItem → Type 0
AreOthers a b items = AllByRecursion (λ item. is_of a b item ≡ false) items

-- items of other pairs are all left
pub others_all : (a b : ℕ) (items : List CacheItem) → AreOthers a b items → others items a b ≡ items
others_all a b [] all = refl
others_all a b (item ∷ items) all =
    ap (λ is. cond (not is) (item ∷ others items a b) (others items a b)) all.0 ∙
    ap (λ l. item ∷ l) (others_all a b items all.1)

-- what is left is of other pairs
pub AreOthers-others : (a b : ℕ) (items : List CacheItem) → AreOthers a b (others items a b)
AreOthers-others a b [] = tt
AreOthers-others a b (item ∷ items) =
    (elim (is_of a b item) as (λ is. is_of a b item ≡ is → AreOthers a b (cond (not is) (item ∷ others items a b) (others items a b))) [
      | true ↦ λ _. AreOthers-others a b items
      | false ↦ λ is. (is, AreOthers-others a b items)
    ]) refl

-- where none is found all are of other pairs
pub AreOthers-none : (a b : ℕ) (items : List CacheItem) → finds items a b ≡ None → AreOthers a b items
AreOthers-none a b [] none = tt
AreOthers-none a b (item ∷ items) none =
    (elim (is_of a b item) as (λ is. is_of a b item ≡ is → cond is (Some item) (finds items a b) ≡ None → AreOthers a b (item ∷ items)) [
      | true ↦ λ is found. cc
      | false ↦ λ is on. (is, AreOthers-none a b items on)
    ]) refl none

-- items that are not like an item of the pair are of other pairs
pub AreOthers-apart : (a b : ℕ) (item : CacheItem) (items : List CacheItem) → is_of a b item ≡ true →
    AllByRecursion (λ other. are_alike item other ≡ false) items → AreOthers a b items
AreOthers-apart a b item [] is apart = tt
AreOthers-apart a b item (other ∷ items) is apart =
    (is_of-alike a b item other is ∙ apart.0, AreOthers-apart a b item items is apart.1)

-- and the other way round
apart-from : (a b : ℕ) (item : CacheItem) (items : List CacheItem) → is_of a b item ≡ true →
    AreOthers a b items → AllByRecursion (λ other. are_alike item other ≡ false) items
apart-from a b item [] is all = tt
apart-from a b item (other ∷ items) is all =
    (sym (is_of-alike a b item other is) ∙ all.0, apart-from a b item items is all.1)

-- no more items are left than there were
pub length-others : (a b : ℕ) (items : List CacheItem) → length (others items a b) ≤ length items
length-others a b [] = omega arith
length-others a b (item ∷ items) =
    let fewer = length-others a b items in
    elim (is_of a b item) as (λ is. length (cond (not is) (item ∷ others items a b) (others items a b)) ≤ length (item ∷ items)) [
      | true ↦ omega arith
      | false ↦ omega arith
    ]

-- fewer are left where one was found
pub length-others-found : (a b : ℕ) (items : List CacheItem) (item : CacheItem) → finds items a b ≡ Some item →
    length (others items a b) + 1 ≤ length items
length-others-found a b [] item found = cc
length-others-found a b (first ∷ items) item found =
    (elim (is_of a b first) as (λ is. is_of a b first ≡ is → cond is (Some first) (finds items a b) ≡ Some item →
    length (cond (not is) (first ∷ others items a b) (others items a b)) + 1 ≤ length (first ∷ items)) [
      | true ↦ λ _ _. omega (arith, length-others a b items)
      | false ↦ λ _ on. omega (arith, length-others-found a b items item on)
    ]) refl found

-- what is found is of the pair
pub is_of-found : (a b : ℕ) (items : List CacheItem) (item : CacheItem) → finds items a b ≡ Some item →
    is_of a b item ≡ true
is_of-found a b [] item found = cc
is_of-found a b (first ∷ items) item found =
    (elim (is_of a b first) as (λ is. is_of a b first ≡ is → cond is (Some first) (finds items a b) ≡ Some item → is_of a b item ≡ true) [
      | true ↦ λ is here. let same : first ≡ item = cc in subst (λ i. is_of a b i ≡ true) same is
      | false ↦ λ _ on. is_of-found a b items item on
    ]) refl found

-- and is one of the items
pub IsItem-found : (a b : ℕ) (items : List CacheItem) (item : CacheItem) → finds items a b ≡ Some item →
    AllByRecursion IsItem items → IsItem item
IsItem-found a b [] item found all = cc
IsItem-found a b (first ∷ items) item found all =
    (elim (is_of a b first) as (λ is. cond is (Some first) (finds items a b) ≡ Some item → IsItem item) [
      | true ↦ λ here. let same : first ≡ item = cc in subst IsItem same all.0
      | false ↦ λ on. IsItem-found a b items item on all.1
    ]) found

-- an item of the pair in front of the items of other pairs, and of these no more than there may be
pub IsCache-front : (capacity a b : ℕ) (item : CacheItem) (items : List CacheItem) → IsCache capacity items →
    IsItem item → is_of a b item ≡ true → IsCache capacity (take capacity (item ∷ others items a b))
unfolding IsDistinct
IsCache-front capacity a b item items cache one is =
    let apart = apart-from a b item (others items a b) is (AreOthers-others a b items) in
    let left : AllByRecursion IsItem (others items a b) = AllByRecursion-filter IsItem (λ i. not (is_of a b i)) items cache.each in
    let distinct : IsDistinct are_alike (others items a b) = IsDistinct-filter are_alike (λ i. not (is_of a b i)) items cache.distinct in
    record {
      some = cache.some;
      most = omega (arith, length-take capacity (item ∷ others items a b));
      each = AllByRecursion-take IsItem capacity (item ∷ others items a b) (one, left);
      distinct = IsDistinct-take are_alike capacity (item ∷ others items a b) (apart, distinct);
    }

-- an answer is lasting where that to the mirror is
is_lasting-mirror : (a b : ℕ) (answer : Answer) → is_lasting b a (mirror answer) ≡ is_lasting a b answer
is_lasting-mirror a b Before = ap not (nat_eq_equiv.symm b a)
is_lasting-mirror a b After = ap not (nat_eq_equiv.symm b a)
is_lasting-mirror a b Same = nat_eq_equiv.symm b a
is_lasting-mirror a b Concurrent = refl
is_lasting-mirror a b Unknown = refl
is_lasting-mirror a b Unsure = refl

-- and where that to the pair with the lesser event first is
is_lasting-seen_from : (a b : ℕ) (answer : Answer) →
    is_lasting (min a b) (max a b) (seen_from a b answer) ≡ is_lasting a b answer
is_lasting-seen_from a b answer =
    (elim (leb a b) as (λ le. leb a b ≡ le → is_lasting (min a b) (max a b) (cond le answer (mirror answer)) ≡ is_lasting a b answer) [
      | true ↦ λ is.
          let less : a ≤ b = leb-true a b is in
          let first : min a b ≡ a = omega arith in
          let second : max a b ≡ b = omega arith in
          ap (λ n. is_lasting n (max a b) answer) first ∙ ap (λ n. is_lasting a n answer) second
      | false ↦ λ is.
          let less : b < a = leb-false a b is in
          let first : min a b ≡ b = omega arith in
          let second : max a b ≡ a = omega arith in
          ap (λ n. is_lasting n (max a b) (mirror answer)) first ∙ ap (λ n. is_lasting b n (mirror answer)) second ∙
          is_lasting-mirror a b answer
    ]) refl

-- seen from there and back
mirror-mirror : (answer : Answer) → mirror (mirror answer) ≡ answer
mirror-mirror Before = refl
mirror-mirror After = refl
mirror-mirror Same = refl
mirror-mirror Concurrent = refl
mirror-mirror Unknown = refl
mirror-mirror Unsure = refl

seen_from-seen_from : (a b : ℕ) (answer : Answer) → seen_from a b (seen_from a b answer) ≡ answer
seen_from-seen_from a b answer =
    elim (leb a b) as (λ le. cond le (cond le answer (mirror answer)) (mirror (cond le answer (mirror answer))) ≡ answer) [
      | true ↦ refl
      | false ↦ mirror-mirror answer
    ]

-- what is found of a pair has a lasting answer to it
pub is_lasting-found : (a b : ℕ) (item : CacheItem) → is_of a b item ≡ true → IsItem item →
    is_lasting a b (seen_from a b item.answer) ≡ true
is_lasting-found a b item is one =
    let both = and_parts (eqb (min a b) item.first) (eqb (max a b) item.second) is in
    let first : min a b ≡ item.first = eqb-true (min a b) item.first both.0 in
    let second : max a b ≡ item.second = eqb-true (max a b) item.second both.1 in
    let back : is_lasting (min a b) (max a b) (seen_from a b (seen_from a b item.answer)) ≡
    is_lasting a b (seen_from a b item.answer) = is_lasting-seen_from a b (seen_from a b item.answer) in
    sym back ∙ ap (is_lasting (min a b) (max a b)) (seen_from-seen_from a b item.answer) ∙
    ap (λ n. is_lasting n (max a b) item.answer) first ∙ ap (λ n. is_lasting item.first n item.answer) second ∙
    one.lasting

-- the item that is put
pub is_of-item_of : (a b : ℕ) (answer : Answer) (entry : ℕ) → is_of a b (item_of a b answer entry) ≡ true
is_of-item_of a b answer entry =
    ap (λ t. t && eqb (max a b) (max a b)) (nat_eq_equiv.refl (min a b)) ∙ nat_eq_equiv.refl (max a b)

IsItem-item_of : (a b : ℕ) (answer : Answer) (entry : ℕ) → is_lasting a b answer ≡ true →
    IsItem (item_of a b answer entry)
IsItem-item_of a b answer entry lasting =
    record { ordered = omega arith; lasting = is_lasting-seen_from a b answer ∙ lasting }

-- after a look
pub IsCache-looks_up : (capacity a b : ℕ) (items : List CacheItem) → IsCache capacity items →
    IsCache capacity (looks_up items a b).after
IsCache-looks_up capacity a b items cache = by_found (finds items a b) refl
  where
    by_found : (found : Option CacheItem) → finds items a b ≡ found → IsCache capacity (looks_at items a b found).after
    by_found None none = cache
    by_found (Some item) found =
        let one = IsItem-found a b items item found cache.each in
        let front = IsCache-front capacity a b item items cache one (is_of-found a b items item found) in
        let fits : length (item ∷ others items a b) ≤ capacity = omega (arith, length-others-found a b items item found, cache.most) in
        subst (IsCache capacity) (take_all capacity (item ∷ others items a b) fits) front

-- after a put
pub IsCache-remembers : (capacity a b : ℕ) (answer : Answer) (entry : ℕ) (items : List CacheItem) →
    is_lasting a b answer ≡ true → IsCache capacity items →
    IsCache capacity (remembers capacity items a b answer entry)
IsCache-remembers capacity a b answer entry items lasting cache =
    IsCache-front capacity a b (item_of a b answer entry) items cache (IsItem-item_of a b answer entry lasting)
    (is_of-item_of a b answer entry)
