-- Which events are held: those that have a key.
use Rattle.std.proofs.Common.{◌≡◌, ◌⊎◌, ℕ, ◌<◌, Bool, true, false, not, cond, eqb, ◌||◌, List, [], ◌∷◌, ◌++◌, length, get_or, refl, sym, ap, ◌∙◌, subst, inl, inr, arith}
use Rattle.std.specs.Prelude.{Option, Some, None, IsSome, is_some, map}
use Rattle.std.specs.List.{All, AllPairs, list_any, filter}
use Rattle.std.proofs.lemmas.Bool.{cases_eq, eq-eqb, eqb-true, ne_eqb, false_from_ne_true, both_ways, or_left, or_parts}
use Rattle.std.proofs.lemmas.Option.{none-some}
use Rattle.std.proofs.lemmas.List.{length-map, get_or-map}
use Rattle.std.proofs.lemmas.List.Folds.{list_any_at, list_any_none, list_any-append, Any-from_list_any}
use Rattle.dep_graph.specs.Table.{AreRising, number_of, entries_without}
use Rattle.dep_graph.specs.GraphView.{is_held, without, JoinsHeld}

-- the events of a table
abbrev pub events_of : List (ℕ × ℕ) → List ℕ
events_of keys = map (λ entry. entry.0) keys

-- an event is held where it has a key
pub is_held-number : (keys : List (ℕ × ℕ)) (event : ℕ) → is_held (events_of keys) event ≡ is_some (number_of keys event)
is_held-number [] event = refl
is_held-number (entry ∷ more) event = one (eqb entry.0 event) (is_held-number more event)
  where
    one : (same : Bool) → is_held (events_of more) event ≡ is_some (number_of more event) → (same || is_held (events_of more) event) ≡ is_some (cond same (Some entry.1) (number_of more event))
    one true rest = refl
    one false rest = rest

-- the key of a held event
pub record HasKey (keys : List (ℕ × ℕ)) (event : ℕ) : Type 0 where
  pub key : ℕ
  pub is : number_of keys event ≡ Some key

pub key_of : (keys : List (ℕ × ℕ)) (event : ℕ) → is_held (events_of keys) event ≡ true → HasKey keys event
key_of keys event held = by_number (number_of keys event) refl (sym (is_held-number keys event) ∙ held)
  where
    by_number : (number : Option ℕ) → number_of keys event ≡ number → is_some (number_of keys event) ≡ true → HasKey keys event
    by_number None is some = absurd (both_ways false refl (sym (ap is_some is) ∙ some))
    by_number (Some key) is some = record { key = key; is = is }

pub held_at : (keys : List (ℕ × ℕ)) (event key : ℕ) → number_of keys event ≡ Some key → is_held (events_of keys) event ≡ true
held_at keys event key is = is_held-number keys event ∙ ap is_some is

-- an event that differs from all is not held
pub is_held-none : (events : List ℕ) (event : ℕ) → All (λ vertex. vertex ≡ event → ⊥) events → is_held events event ≡ false
is_held-none events event differ =
    list_any_none (λ vertex. eqb vertex event) events (λ k d below. ne_eqb (get_or events k d) event (differ k d below))

-- what is held stays so with more events
pub is_held-more : (events more : List ℕ) (event : ℕ) → is_held events event ≡ true → is_held (events ++ more) event ≡ true
is_held-more events more event held =
    list_any-append (λ vertex. eqb vertex event) events more ∙ or_left (is_held events event) (is_held more event) held

pub JoinsHeld-more : (events more : List ℕ) (pair : ℕ × ℕ) → JoinsHeld events pair → JoinsHeld (events ++ more) pair
JoinsHeld-more events more pair joins =
    record { first = is_held-more events more pair.0 joins.first; second = is_held-more events more pair.1 joins.second }

-- another event stays held without this one
pub is_held-without : (events : List ℕ) (gone event : ℕ) → eqb gone event ≡ false → is_held (without events gone) event ≡ is_held events event
is_held-without [] gone event other = refl
is_held-without (vertex ∷ more) gone event other = one (eqb vertex gone) refl (is_held-without more gone event other)
  where
    one : (same : Bool) → eqb vertex gone ≡ same → is_held (without more gone) event ≡ is_held more event → is_held (cond (not same) (vertex ∷ without more gone) (without more gone)) event ≡ (eqb vertex event || is_held more event)
    one true same rest = rest ∙ sym (ap (λ v. eqb v event || is_held more event) (eqb-true vertex gone same) ∙ ap (λ t. t || is_held more event) other)
    one false same rest = ap (λ t. eqb vertex event || t) rest

-- the keys but that of an event
pub events_of-without : (keys : List (ℕ × ℕ)) (gone : ℕ) → events_of (entries_without keys gone) ≡ without (events_of keys) gone
events_of-without [] gone = refl
events_of-without (entry ∷ more) gone = one (eqb entry.0 gone) (events_of-without more gone)
  where
    one : (same : Bool) → events_of (entries_without more gone) ≡ without (events_of more) gone → events_of (cond (not same) (entry ∷ entries_without more gone) (entries_without more gone)) ≡ cond (not same) (entry.0 ∷ without (events_of more) gone) (without (events_of more) gone)
    one true rest = rest
    one false rest = ap (λ events. entry.0 ∷ events) rest

pub number_of-without_other : (keys : List (ℕ × ℕ)) (gone event : ℕ) → eqb gone event ≡ false → number_of (entries_without keys gone) event ≡ number_of keys event
number_of-without_other [] gone event other = refl
number_of-without_other (entry ∷ more) gone event other = one (eqb entry.0 gone) refl (number_of-without_other more gone event other)
  where
    one : (same : Bool) → eqb entry.0 gone ≡ same → number_of (entries_without more gone) event ≡ number_of more event → number_of (cond (not same) (entry ∷ entries_without more gone) (entries_without more gone)) event ≡ cond (eqb entry.0 event) (Some entry.1) (number_of more event)
    one true same rest = rest ∙ sym (ap (λ v. cond (eqb v event) (Some entry.1) (number_of more event)) (eqb-true entry.0 gone same) ∙ ap (λ t. cond t (Some entry.1) (number_of more event)) other)
    one false same rest = ap (λ n. cond (eqb entry.0 event) (Some entry.1) n) rest

pub number_of-without_same : (keys : List (ℕ × ℕ)) (gone : ℕ) → number_of (entries_without keys gone) gone ≡ None
number_of-without_same [] gone = refl
number_of-without_same (entry ∷ more) gone = one (eqb entry.0 gone) refl (number_of-without_same more gone)
  where
    one : (same : Bool) → eqb entry.0 gone ≡ same → number_of (entries_without more gone) gone ≡ None → number_of (cond (not same) (entry ∷ entries_without more gone) (entries_without more gone)) gone ≡ None
    one true same rest = rest
    one false same rest = ap (λ t. cond t (Some entry.1) (number_of (entries_without more gone) gone)) same ∙ rest

-- the keys with one more event
pub number_of-push : (keys : List (ℕ × ℕ)) (id key event : ℕ) → is_held (events_of keys) id ≡ false → number_of (keys ++ (id, key) ∷ []) event ≡ cond (eqb id event) (Some key) (number_of keys event)
number_of-push [] id key event absent = refl
number_of-push (entry ∷ more) id key event absent = one (eqb entry.0 event) refl (number_of-push more id key event (or_parts (eqb entry.0 id) (is_held (events_of more) id) absent).1)
  where
    one : (same : Bool) → eqb entry.0 event ≡ same → number_of (more ++ (id, key) ∷ []) event ≡ cond (eqb id event) (Some key) (number_of more event) → cond same (Some entry.1) (number_of (more ++ (id, key) ∷ []) event) ≡ cond (eqb id event) (Some key) (cond same (Some entry.1) (number_of more event))
    one true same rest =
        let other : eqb id event ≡ false = ne_eqb id event (λ is. both_ways (eqb entry.0 id) (or_parts (eqb entry.0 id) (is_held (events_of more) id) absent).0 (eq-eqb entry.0 id (eqb-true entry.0 event same ∙ sym is))) in
        sym (ap (λ t. cond t (Some key) (Some entry.1)) other)
    one false same rest = rest

-- the held events rise as the table does
pub rising_events : (keys : List (ℕ × ℕ)) → AreRising keys → AllPairs (λ a b. a < b) (events_of keys)
rising_events keys rising i j d less below =
    let size : j < length keys = omega (arith, length-map keys (λ (entry : ℕ × ℕ). entry.0)) in
    let at : (k : ℕ) → k < length keys → get_or (events_of keys) k d ≡ (get_or keys k (d, 0)).0 = λ k there. get_or-map (λ (entry : ℕ × ℕ). entry.0) keys k (d, 0) d there in
    omega (arith, rising i j (d, 0) less size, at i (omega arith), at j size)
