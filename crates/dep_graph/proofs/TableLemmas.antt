-- Look-ups and changes of a table, by the places of its events.
use Rattle.std.proofs.Common.{◌≡◌, ℕ, ◌+◌, ◌-◌, ◌<◌, ◌≤◌, Bool, true, false, not, cond, eqb, suc, zero, List, [], ◌∷◌, ◌++◌, length, get_or, set, refl, sym, ap, ◌∙◌, subst, inl, inr, arith, length-append}
use Rattle.std.specs.Prelude.{Option, None, Some, IsSome, is_some, Result, Ok, Err, map, filter_map, slice_get}
use Rattle.std.specs.Ordering.{nat_cmp, ordering_index}
use Rattle.std.specs.Option.{option_map}
use Rattle.std.specs.List.{All, AllPairs, AllByRecursion, filter, cons_option}
use Rattle.std.specs.List.Sorted.{IsBinarySearchResult, IsNonDecreasingBy}
use Rattle.std.proofs.lemmas.Bool.{both_ways, cases_eq, cases_lt, eq-eqb, eqb-true, ne_eqb, false_from_ne_true}
use Rattle.std.proofs.lemmas.Cmp.{ranked}
use Rattle.std.proofs.lemmas.List.{append-nil, get_or_append_left, get_or-set_same, get_or-set_other, get_or_default, length-set}
use Rattle.std.proofs.lemmas.List.Elements.{filter_map-append, recursion_from_All, All-from_recursion, All-tail}
use Rattle.std.proofs.lemmas.List.Kept.{AllPairs-cons}
use Rattle.std.proofs.lemmas.List.Quantifiers.{all_pairs_push}
use Rattle.std.proofs.lemmas.List.Sorted.{IsNonDecreasingBy-from_default}
use Rattle.std.proofs.lemmas.Bool.Decides.{nat_tests}
use Rattle.dep_graph.specs.declared.table.Place.{Place}
use Rattle.dep_graph.specs.Table.{AreRising, number_of, renumbered, with_number, entries_without}
use Rattle.dep_graph.specs.Places.{entry_of, entries_in, ArePlacesRising, ArePlaces, IsPlaceAt, IsFilledAt, EndsFilled, EndsEmpty}

-- what is so of all places' events is so of the entries'
pub All-entries : (P : ℕ → Type 0) (places : List Place) → All (λ place. P place.event) places → All (λ entry. P entry.0) (entries_in places)
All-entries P places all = All-from_recursion (λ (entry : ℕ × ℕ). P entry.0) (entries_in places) (each places (recursion_from_All (λ (place : Place). P place.event) places all))
  where
    one : (event : ℕ) (number : Option ℕ) (rest : List (ℕ × ℕ)) → P event → AllByRecursion (λ (entry : ℕ × ℕ). P entry.0) rest → AllByRecursion (λ (entry : ℕ × ℕ). P entry.0) (cons_option (option_map (λ n. (event, n)) number) rest)
    one event None rest holds all = all
    one event (Some n) rest holds all = (holds, all)

    each : (places : List Place) → AllByRecursion (λ (place : Place). P place.event) places → AllByRecursion (λ (entry : ℕ × ℕ). P entry.0) (entries_in places)
    each [] all = tt
    each (place ∷ more) all = one place.event place.number (entries_in more) all.0 (each more all.1)

-- what rises does so behind its first place, and the first is below the others
pub rising-tail : (place : Place) (more : List Place) → ArePlacesRising (place ∷ more) → ArePlacesRising more
rising-tail place more rising i j d less below = rising (suc i) (suc j) d (omega arith) (omega arith)

pub rising-head : (place : Place) (more : List Place) → ArePlacesRising (place ∷ more) → All (λ later. place.event < later.event) more
rising-head place more rising k d below = rising 0 (suc k) d (omega arith) (omega arith)

-- the others are of other events
apart : (place : Place) (more : List Place) (event : ℕ) → ArePlacesRising (place ∷ more) → place.event ≡ event → All (λ entry. entry.0 ≡ event → ⊥) (entries_in more)
apart place more event rising is =
    All-entries (λ other. other ≡ event → ⊥) more (λ k d below same. omega (arith, rising-head place more rising k d below, is, same))

-- the entries rise as the places do
pub AreRising-entries : (places : List Place) → ArePlacesRising places → AreRising (entries_in places)
AreRising-entries [] rising = λ i j d less below. absurd (omega arith)
AreRising-entries (place ∷ more) rising =
    one place.event place.number (entries_in more) (All-entries (λ other. place.event < other) more (rising-head place more rising)) (AreRising-entries more (rising-tail place more rising))
  where
    one : (event : ℕ) (number : Option ℕ) (rest : List (ℕ × ℕ)) → All (λ entry. event < entry.0) rest → AreRising rest → AreRising (cons_option (option_map (λ n. (event, n)) number) rest)
    one event None rest all rising = rising
    one event (Some n) rest all rising = AllPairs-cons (λ (x y : ℕ × ℕ). x.0 < y.0) (event, n) rest all rising

-- an event that differs from all has no number
pub number_of-none : (entries : List (ℕ × ℕ)) (event : ℕ) → All (λ entry. entry.0 ≡ event → ⊥) entries → number_of entries event ≡ None
number_of-none entries event differ = none entries (recursion_from_All (λ (entry : ℕ × ℕ). entry.0 ≡ event → ⊥) entries differ)
  where
    none : (entries : List (ℕ × ℕ)) → AllByRecursion (λ (entry : ℕ × ℕ). entry.0 ≡ event → ⊥) entries → number_of entries event ≡ None
    none [] all = refl
    none (entry ∷ more) all = ap (λ same. cond same (Some entry.1) (number_of more event)) (ne_eqb entry.0 event all.0) ∙ none more all.1

-- a place of another event is looked past
number_of-other : (event' event : ℕ) (number : Option ℕ) (rest : List (ℕ × ℕ)) → (event' ≡ event → ⊥) → number_of (cons_option (option_map (λ n. (event', n)) number) rest) event ≡ number_of rest event
number_of-other event' event None rest other = refl
number_of-other event' event (Some n) rest other = ap (λ same. cond same (Some n) (number_of rest event)) (ne_eqb event' event other)

-- the place of the event has its number, where the others have none
number_of-same : (event' event : ℕ) (number : Option ℕ) (rest : List (ℕ × ℕ)) → event' ≡ event → number_of rest event ≡ None → number_of (cons_option (option_map (λ n. (event', n)) number) rest) event ≡ number
number_of-same event' event None rest same none = none
number_of-same event' event (Some n) rest same none = ap (λ same. cond same (Some n) (number_of rest event)) (eq-eqb event' event same)

-- each event has the number of its place
pub number_of-at : (places : List Place) (i event : ℕ) (d : Place) → ArePlacesRising places → i < length places → (get_or places i d).event ≡ event → number_of (entries_in places) event ≡ (get_or places i d).number
number_of-at [] i event d rising below is = absurd (omega arith)
number_of-at (place ∷ more) zero event d rising below is =
    number_of-same place.event event place.number (entries_in more) is (number_of-none (entries_in more) event (apart place more event rising is))
number_of-at (place ∷ more) (suc i) event d rising below is =
    number_of-other place.event event place.number (entries_in more) (λ same. omega (arith, rising 0 (suc i) d (omega arith) below, is, same)) ∙ number_of-at more i event d (rising-tail place more rising) (omega arith) is

-- entries of other events stay as they are
with_number-none : (entries : List (ℕ × ℕ)) (event number : ℕ) → All (λ entry. entry.0 ≡ event → ⊥) entries → with_number entries event number ≡ entries
with_number-none entries event number differ = none entries (recursion_from_All (λ (entry : ℕ × ℕ). entry.0 ≡ event → ⊥) entries differ)
  where
    none : (entries : List (ℕ × ℕ)) → AllByRecursion (λ (entry : ℕ × ℕ). entry.0 ≡ event → ⊥) entries → with_number entries event number ≡ entries
    none [] all = refl
    none (entry ∷ more) all =
        ap (λ same. cond same (event, number) entry ∷ with_number more event number) (ne_eqb entry.0 event all.0) ∙ ap (λ rest. entry ∷ rest) (none more all.1)

entries_without-none : (entries : List (ℕ × ℕ)) (event : ℕ) → All (λ entry. entry.0 ≡ event → ⊥) entries → entries_without entries event ≡ entries
entries_without-none entries event differ = none entries (recursion_from_All (λ (entry : ℕ × ℕ). entry.0 ≡ event → ⊥) entries differ)
  where
    none : (entries : List (ℕ × ℕ)) → AllByRecursion (λ (entry : ℕ × ℕ). entry.0 ≡ event → ⊥) entries → entries_without entries event ≡ entries
    none [] all = refl
    none (entry ∷ more) all =
        ap (λ same. cond (not same) (entry ∷ entries_without more event) (entries_without more event)) (ne_eqb entry.0 event all.0) ∙ ap (λ rest. entry ∷ rest) (none more all.1)

-- the place of the event gets another number
pub entries_in-set : (places : List Place) (i event number : ℕ) (new d : Place) → ArePlacesRising places → i < length places → (get_or places i d).event ≡ event → IsSome (get_or places i d).number → new.event ≡ event → new.number ≡ Some number → entries_in (set places i new) ≡ with_number (entries_in places) event number
entries_in-set [] i event number new d rising below is some named numbered = absurd (omega arith)
entries_in-set (place ∷ more) zero event number new d rising below is some named numbered =
    ap (λ n. cons_option (option_map (λ m. (new.event, m)) n) (entries_in more)) numbered ∙ ap (λ e. (e, number) ∷ entries_in more) named ∙ sym (old place.number some)
  where
    old : (n : Option ℕ) → IsSome n → with_number (cons_option (option_map (λ m. (place.event, m)) n) (entries_in more)) event number ≡ (event, number) ∷ entries_in more
    old None none = absurd (both_ways false refl none)
    old (Some m) some =
        ap (λ same. cond same (event, number) (place.event, m) ∷ with_number (entries_in more) event number) (eq-eqb place.event event is) ∙ ap (λ rest. (event, number) ∷ rest) (with_number-none (entries_in more) event number (apart place more event rising is))
entries_in-set (place ∷ more) (suc i) event number new d rising below is some named numbered =
    ap (cons_option (entry_of place)) (entries_in-set more i event number new d (rising-tail place more rising) (omega arith) is some named numbered) ∙ sym (past place.number)
  where
    other : place.event ≡ event → ⊥
    other same = omega (arith, rising 0 (suc i) d (omega arith) below, is, same)

    past : (n : Option ℕ) → with_number (cons_option (option_map (λ m. (place.event, m)) n) (entries_in more)) event number ≡ cons_option (option_map (λ m. (place.event, m)) n) (with_number (entries_in more) event number)
    past None = refl
    past (Some m) = ap (λ same. cond same (event, number) (place.event, m) ∷ with_number (entries_in more) event number) (ne_eqb place.event event other)

-- the place of the event is made empty
pub entries_in-empty : (places : List Place) (i event : ℕ) (new d : Place) → ArePlacesRising places → i < length places → (get_or places i d).event ≡ event → new.number ≡ None → entries_in (set places i new) ≡ entries_without (entries_in places) event
entries_in-empty [] i event new d rising below is emptied = absurd (omega arith)
entries_in-empty (place ∷ more) zero event new d rising below is emptied =
    ap (λ n. cons_option (option_map (λ m. (new.event, m)) n) (entries_in more)) emptied ∙ sym (old place.number)
  where
    rest : entries_without (entries_in more) event ≡ entries_in more
    rest = entries_without-none (entries_in more) event (apart place more event rising is)

    old : (n : Option ℕ) → entries_without (cons_option (option_map (λ m. (place.event, m)) n) (entries_in more)) event ≡ entries_in more
    old None = rest
    old (Some m) = ap (λ same. cond (not same) ((place.event, m) ∷ entries_without (entries_in more) event) (entries_without (entries_in more) event)) (eq-eqb place.event event is) ∙ rest
entries_in-empty (place ∷ more) (suc i) event new d rising below is emptied =
    ap (cons_option (entry_of place)) (entries_in-empty more i event new d (rising-tail place more rising) (omega arith) is emptied) ∙ sym (past place.number)
  where
    other : place.event ≡ event → ⊥
    other same = omega (arith, rising 0 (suc i) d (omega arith) below, is, same)

    past : (n : Option ℕ) → entries_without (cons_option (option_map (λ m. (place.event, m)) n) (entries_in more)) event ≡ cons_option (option_map (λ m. (place.event, m)) n) (entries_without (entries_in more) event)
    past None = refl
    past (Some m) = ap (λ same. cond (not same) ((place.event, m) ∷ entries_without (entries_in more) event) (entries_without (entries_in more) event)) (ne_eqb place.event event other)

-- there are no more entries than places, and one fewer where a place is made empty
length-cons_option : (entry : Option (ℕ × ℕ)) (rest : List (ℕ × ℕ)) → length (cons_option entry rest) ≤ suc (length rest)
length-cons_option None rest = omega arith
length-cons_option (Some entry) rest = omega arith

pub length-entries_in-le : (places : List Place) → length (entries_in places) ≤ length places
length-entries_in-le [] = omega arith
length-entries_in-le (place ∷ more) = omega (arith, length-cons_option (entry_of place) (entries_in more), length-entries_in-le more)

-- an entry in front of more or fewer
fewer : (entry : Option (ℕ × ℕ)) (xs ys : List (ℕ × ℕ)) → length xs + 1 ≡ length ys → length (cons_option entry xs) + 1 ≡ length (cons_option entry ys)
fewer None xs ys is = is
fewer (Some entry) xs ys is = omega (arith, is)

as_many : (entry : Option (ℕ × ℕ)) (xs ys : List (ℕ × ℕ)) → length xs ≡ length ys → length (cons_option entry xs) ≡ length (cons_option entry ys)
as_many None xs ys is = is
as_many (Some entry) xs ys is = ap suc is

pub length-entries_in-empty : (places : List Place) (i : ℕ) (new d : Place) → i < length places → IsSome (get_or places i d).number → new.number ≡ None → length (entries_in (set places i new)) + 1 ≡ length (entries_in places)
length-entries_in-empty [] i new d below some emptied = absurd (omega arith)
length-entries_in-empty (place ∷ more) zero new d below some emptied =
    ap (λ n. length (cons_option (option_map (λ m. (new.event, m)) n) (entries_in more)) + 1) emptied ∙ sym (old place.number some)
  where
    old : (n : Option ℕ) → IsSome n → length (cons_option (option_map (λ m. (place.event, m)) n) (entries_in more)) ≡ length (entries_in more) + 1
    old None none = absurd (both_ways false refl none)
    old (Some m) some = omega arith
length-entries_in-empty (place ∷ more) (suc i) new d below some emptied =
    fewer (entry_of place) (entries_in (set more i new)) (entries_in more) (length-entries_in-empty more i new d (omega arith) some emptied)

pub length-entries_in-set : (places : List Place) (i : ℕ) (number : ℕ) (new d : Place) → i < length places → IsSome (get_or places i d).number → new.number ≡ Some number → length (entries_in (set places i new)) ≡ length (entries_in places)
length-entries_in-set [] i number new d below some numbered = absurd (omega arith)
length-entries_in-set (place ∷ more) zero number new d below some numbered =
    ap (λ n. length (cons_option (option_map (λ m. (new.event, m)) n) (entries_in more))) numbered ∙ sym (old place.number some)
  where
    old : (n : Option ℕ) → IsSome n → length (cons_option (option_map (λ m. (place.event, m)) n) (entries_in more)) ≡ suc (length (entries_in more))
    old None none = absurd (both_ways false refl none)
    old (Some m) some = refl
length-entries_in-set (place ∷ more) (suc i) number new d below some numbered =
    as_many (entry_of place) (entries_in (set more i new)) (entries_in more) (length-entries_in-set more i number new d (omega arith) some numbered)

-- empty places are no entries
pub entries_in-filled : (places : List Place) → entries_in (filter (λ place. is_some place.number) places) ≡ entries_in places
entries_in-filled [] = refl
entries_in-filled (place ∷ more) = one place more (filter (λ p. is_some p.number) more) place.number refl (entries_in-filled more)
  where
    one : (place : Place) (more kept : List Place) (n : Option ℕ) → place.number ≡ n → entries_in kept ≡ entries_in more → entries_in (cond (is_some place.number) (place ∷ kept) kept) ≡ entries_in (place ∷ more)
    one place more kept None is same =
        ap (λ n. entries_in (cond (is_some n) (place ∷ kept) kept)) is ∙ same ∙ sym (ap (λ n. cons_option (option_map (λ m. (place.event, m)) n) (entries_in more)) is)
    one place more kept (Some m) is same =
        ap (λ n. entries_in (cond (is_some n) (place ∷ kept) kept)) is ∙ ap (cons_option (entry_of place)) same

-- places that keep their events rise as they did
pub rising-set : (places : List Place) (i : ℕ) (new d : Place) → i < length places → new.event ≡ (get_or places i d).event → ArePlacesRising places → ArePlacesRising (set places i new)
rising-set places i new d in_places same rising j k e less below =
    let there : k < length places = omega (arith, length-set places i new) in
    omega (arith, rising j k e less there, event_at j (omega arith), event_at k there)
  where
    event_at : (j : ℕ) → j < length places → (get_or (set places i new) j e).event ≡ (get_or places j e).event
    event_at j below =
        elim (cases_eq j i) [
          | inl is ↦ ap (λ k. (get_or (set places i new) k e).event) is ∙ ap (λ (p : Place). p.event) (get_or-set_same places i new e in_places) ∙ same ∙ ap (λ (p : Place). p.event) (get_or_default places i d e in_places) ∙ ap (λ k. (get_or places k e).event) (sym is)
          | inr other ↦ ap (λ (p : Place). p.event) (get_or-set_other places i j new e other)
        ]

-- the comparisons with an event rise as the places do
comparisons_rise : (places : List Place) (event : ℕ) → ArePlacesRising places → IsNonDecreasingBy (λ place. ordering_index (nat_cmp place.event event)) places
comparisons_rise places event rising =
    let d : Place = record { event = 0; number = None } in
    IsNonDecreasingBy-from_default (λ (place : Place). ordering_index (nat_cmp place.event event)) places d (λ i j le below.
    let rise : (get_or places i d).event ≤ (get_or places j d).event = grind (arith, rising i j d, λ (same : i ≡ j). ap (λ k. (get_or places k d).event) same) in
    grind (arith, nat_tests))

-- what a binary search finds is the event's place
pub place-found : (places : List Place) (event i : ℕ) (r : Result ℕ ℕ) → r ≡ Ok i → i < length places → IsBinarySearchResult (λ place. nat_cmp place.event event) places r → IsPlaceAt places event i
place-found places event i r is below found =
    let equal = rw is at found in
    record { below = below; named = λ d. ranked (get_or places i d).event event _ (sym (equal d)) }

-- where it finds none, there is none
pub place-none : (places : List Place) (event i : ℕ) (r : Result ℕ ℕ) → ArePlacesRising places → r ≡ Err i → IsBinarySearchResult (λ place. nat_cmp place.event event) places r → All (λ place. place.event ≡ event → ⊥) places
place-none places event i r rising is found k d below same =
    let parted = rw is at found in
    let parts = parted (comparisons_rise places event rising) in
    elim (cases_lt k i) [
      | inl before ↦ let less : (get_or places k d).event < event = ranked (get_or places k d).event event _ (sym (parts.0 k d (omega arith) before)) in omega (arith, less, same)
      | inr behind ↦ let more : event < (get_or places k d).event = ranked (get_or places k d).event event _ (sym (parts.1 k d behind below)) in omega (arith, more, same)
    ]

-- the place of an event that has a number is not empty
pub filled_at : (places : List Place) (event i : ℕ) → ArePlacesRising places → IsSome (number_of (entries_in places) event) → IsPlaceAt places event i → IsFilledAt places event i
filled_at places event i rising some at =
    record { at = at; filled = λ d. subst IsSome (number_of-at places i event d rising at.below (at.named d)) some }

-- an event without a place has no number
pub number_of-absent : (places : List Place) (event : ℕ) → All (λ place. place.event ≡ event → ⊥) places → number_of (entries_in places) event ≡ None
number_of-absent places event differ =
    number_of-none (entries_in places) event (All-entries (λ other. other ≡ event → ⊥) places differ)

-- the table with another number for the event
pub ArePlaces-set : (places : List Place) (filled event i number : ℕ) (new d : Place) → ArePlaces places filled → IsFilledAt places event i → new.event ≡ (get_or places i d).event → new.number ≡ Some number → ArePlaces (set places i new) filled
ArePlaces-set places filled event i number new d was at same numbered =
    record {
      rising = rising-set places i new d at.at.below same was.rising;
      counted = was.counted ∙ sym (length-entries_in-set places i number new d at.at.below (at.filled d) numbered);
    }

-- the table without the event
pub ArePlaces-empty : (places : List Place) (filled event i : ℕ) (new d : Place) → ArePlaces places filled → IsFilledAt places event i → new.event ≡ (get_or places i d).event → new.number ≡ None → ArePlaces (set places i new) (filled - 1)
ArePlaces-empty places filled event i new d was at same emptied =
    record {
      rising = rising-set places i new d at.at.below same was.rising;
      counted = omega (arith, was.counted, length-entries_in-empty places i new d at.at.below (at.filled d) emptied);
    }

-- what is so of each entry is so of the event of each place that is not empty
entry_at : (P : ℕ → Type 0) (places : List Place) (k : ℕ) (d : Place) → k < length places → IsSome (get_or places k d).number → AllByRecursion (λ (entry : ℕ × ℕ). P entry.0) (entries_in places) → P (get_or places k d).event
entry_at P [] k d below some all = absurd (omega arith)
entry_at P (place ∷ more) zero d below some all = one place.number some all
  where
    one : (n : Option ℕ) → IsSome n → AllByRecursion (λ (entry : ℕ × ℕ). P entry.0) (cons_option (option_map (λ m. (place.event, m)) n) (entries_in more)) → P place.event
    one None none all = absurd (both_ways false refl none)
    one (Some m) some all = all.0
entry_at P (place ∷ more) (suc k) d below some all = entry_at P more k d (omega arith) some (behind (entry_of place) all)
  where
    behind : (entry : Option (ℕ × ℕ)) → AllByRecursion (λ (entry : ℕ × ℕ). P entry.0) (cons_option entry (entries_in more)) → AllByRecursion (λ (entry : ℕ × ℕ). P entry.0) (entries_in more)
    behind None all = all
    behind (Some entry) all = all.1

-- where the last place is not empty, all places are below what the entries are below
pub places_below : (places : List Place) (event : ℕ) → ArePlacesRising places → EndsFilled places → All (λ entry. entry.0 < event) (entries_in places) → All (λ place. place.event < event) places
places_below places event rising ends all k d below =
    let last = length places - 1 in
    let top : (get_or places last d).event < event = entry_at (λ other. other < event) places last d (omega arith) (ends d (omega arith)) (recursion_from_All (λ (entry : ℕ × ℕ). entry.0 < event) (entries_in places) all) in
    elim (cases_lt k last) [
      | inl less ↦ omega (arith, rising k last d less (omega arith), top)
      | inr past ↦ let same : k ≡ last = omega arith in omega (arith, ap (λ i. (get_or places i d).event) same, top)
    ]

-- one more place with a number is one more entry
pub entries_in-push : (places : List Place) (place : Place) (number : ℕ) → place.number ≡ Some number → entries_in (places ++ place ∷ []) ≡ entries_in places ++ (place.event, number) ∷ []
entries_in-push places place number numbered =
    filter_map-append entry_of places (place ∷ []) ∙ ap (λ n. entries_in places ++ cons_option (option_map (λ m. (place.event, m)) n) []) numbered

-- empty places at the end are no entries, and the others rise as they did
pub entries_in-trim : (old new : List Place) → EndsEmpty old new → entries_in new ≡ entries_in old
entries_in-trim old new trimmed =
    sym (ap entries_in trimmed.is ∙ filter_map-append entry_of new trimmed.more ∙ ap (λ rest. entries_in new ++ rest) trimmed.empty ∙ append-nil (entries_in new))

rising-front : (old new : List Place) → EndsEmpty old new → ArePlacesRising old → ArePlacesRising new
rising-front old new trimmed rising i j d less below =
    let size = ap length trimmed.is ∙ length-append new trimmed.more in
    let at : (k : ℕ) → k < length new → get_or old k d ≡ get_or new k d = λ k there. ap (λ places. get_or places k d) trimmed.is ∙ get_or_append_left new trimmed.more d k there in
    omega (arith, rising i j d less (omega (arith, size)), ap (λ (p : Place). p.event) (at i (omega arith)), ap (λ (p : Place). p.event) (at j below))

-- the table with one more event
pub ArePlaces-push : (old new : List Place) (filled number : ℕ) (place : Place) → ArePlaces old filled → EndsEmpty old new → EndsFilled new → All (λ entry. entry.0 < place.event) (entries_in old) → place.number ≡ Some number → ArePlaces (new ++ place ∷ []) (filled + 1)
ArePlaces-push old new filled number place was trimmed ends greatest numbered =
    let same = entries_in-trim old new trimmed in
    let rising = rising-front old new trimmed was.rising in
    record {
      rising = all_pairs_push (λ (x y : Place). x.event < y.event) new place rising (places_below new place.event rising ends (subst (All (λ (entry : ℕ × ℕ). entry.0 < place.event)) (sym same) greatest));
      counted = omega (arith, was.counted, ap length same, ap length (entries_in-push new place number numbered), length-append (entries_in new) ((place.event, number) ∷ []));
    }
