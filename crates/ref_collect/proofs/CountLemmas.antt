-- The counts of events, as the numbers of a table.
use Rattle.std.proofs.Common.{◌≡◌, ℕ, ◌+◌, ◌-◌, ◌<◌, ◌≤◌, Bool, true, false, cond, eqb, ltb, ◌&&◌, List, [], ◌∷◌, ◌++◌, length, get_or, refl, sym, ap, ◌∙◌, subst, inl, inr, arith}
use Rattle.std.specs.Prelude.{Option, None, Some, IsSome, is_some, map}
use Rattle.std.specs.Option.{unwrap_or}
use Rattle.std.specs.List.{All, AllByRecursion}
use Rattle.std.proofs.lemmas.Bool.{both_ways, cases_eq, eq-eqb, eqb-true, ne_eqb, lt-ltb}
use Rattle.std.proofs.lemmas.List.Elements.{All-map, All-weaker, All-from_recursion, recursion_from_All}
use Rattle.dep_graph.specs.Table.{number_of, renumbered, with_number, entries_without}
use Rattle.dep_graph.proofs.HeldLemmas.{events_of, number_of-push, number_of-without_other, number_of-without_same}
use Rattle.dep_graph.proofs.ChangeLemmas.{is_held-above}
use Rattle.ref_collect.specs.Counts.{count_of}

-- an event has the count that the table gives it, or none
pub count_of-number : (counts : List (ℕ × ℕ)) (event : ℕ) → count_of counts event ≡ unwrap_or (number_of counts event) 0
count_of-number [] event = refl
count_of-number (entry ∷ more) event = one (eqb entry.0 event) (count_of-number more event)
  where
    one : (same : Bool) → count_of more event ≡ unwrap_or (number_of more event) 0 → cond same entry.1 (count_of more event) ≡ unwrap_or (cond same (Some entry.1) (number_of more event)) 0
    one true rest = refl
    one false rest = rest

-- an event with a count is in the table
pub counted_some : (counts : List (ℕ × ℕ)) (event : ℕ) → 0 < count_of counts event → IsSome (number_of counts event)
counted_some counts event live = one (number_of counts event) (subst (λ n. 0 < n) (count_of-number counts event) live)
  where
    one : (number : Option ℕ) → 0 < unwrap_or number 0 → IsSome number
    one None live = absurd (omega (arith, live))
    one (Some n) live = refl

-- another number for an event
number_of-with_other : (counts : List (ℕ × ℕ)) (id number event : ℕ) → eqb event id ≡ false → number_of (with_number counts id number) event ≡ number_of counts event
number_of-with_other [] id number event other = refl
number_of-with_other (entry ∷ more) id number event other = one (eqb entry.0 id) refl (number_of-with_other more id number event other)
  where
    one : (same : Bool) → eqb entry.0 id ≡ same → number_of (with_number more id number) event ≡ number_of more event → number_of (cond same (id, number) entry ∷ with_number more id number) event ≡ cond (eqb entry.0 event) (Some entry.1) (number_of more event)
    one true same rest =
        let differs : eqb id event ≡ false = ne_eqb id event (λ is. both_ways (eqb event id) other (eq-eqb event id (sym is))) in
        ap (λ t. cond t (Some number) (number_of (with_number more id number) event)) differs ∙ rest ∙ sym (ap (λ e. cond (eqb e event) (Some entry.1) (number_of more event)) (eqb-true entry.0 id same) ∙ ap (λ t. cond t (Some entry.1) (number_of more event)) differs)
    one false same rest = ap (λ n. cond (eqb entry.0 event) (Some entry.1) n) rest

number_of-with_same : (counts : List (ℕ × ℕ)) (id number : ℕ) → IsSome (number_of counts id) → number_of (with_number counts id number) id ≡ Some number
number_of-with_same [] id number some = absurd (both_ways false refl some)
number_of-with_same (entry ∷ more) id number some = one (eqb entry.0 id) refl some (number_of-with_same more id number)
  where
    one : (same : Bool) → eqb entry.0 id ≡ same → IsSome (cond same (Some entry.1) (number_of more id)) → (IsSome (number_of more id) → number_of (with_number more id number) id ≡ Some number) → number_of (cond same (id, number) entry ∷ with_number more id number) id ≡ Some number
    one true same some rest = ap (λ t. cond t (Some number) (number_of (with_number more id number) id)) (eq-eqb id id refl)
    one false same some rest = ap (λ t. cond t (Some entry.1) (number_of (with_number more id number) id)) same ∙ rest some

-- the counts where one is set
pub count_of-with : (counts : List (ℕ × ℕ)) (id number event : ℕ) → IsSome (number_of counts id) → count_of (with_number counts id number) event ≡ cond (eqb event id) number (count_of counts event)
count_of-with counts id number event some = one (eqb event id) refl
  where
    one : (same : Bool) → eqb event id ≡ same → count_of (with_number counts id number) event ≡ cond same number (count_of counts event)
    one true same = ap (count_of (with_number counts id number)) (eqb-true event id same) ∙ count_of-number (with_number counts id number) id ∙ ap (λ n. unwrap_or n 0) (number_of-with_same counts id number some)
    one false same = count_of-number (with_number counts id number) event ∙ ap (λ n. unwrap_or n 0) (number_of-with_other counts id number event same) ∙ sym (count_of-number counts event)

-- the counts where one event is taken out
pub count_of-without : (counts : List (ℕ × ℕ)) (id event : ℕ) → count_of (entries_without counts id) event ≡ cond (eqb event id) 0 (count_of counts event)
count_of-without counts id event = one (eqb event id) refl
  where
    one : (same : Bool) → eqb event id ≡ same → count_of (entries_without counts id) event ≡ cond same 0 (count_of counts event)
    one true same = ap (count_of (entries_without counts id)) (eqb-true event id same) ∙ count_of-number (entries_without counts id) id ∙ ap (λ n. unwrap_or n 0) (number_of-without_same counts id)
    one false same =
        let differs : eqb id event ≡ false = ne_eqb id event (λ is. both_ways (eqb event id) same (eq-eqb event id (sym is))) in
        count_of-number (entries_without counts id) event ∙ ap (λ n. unwrap_or n 0) (number_of-without_other counts id event differs) ∙ sym (count_of-number counts event)

-- the counts with one more event
pub count_of-push : (counts : List (ℕ × ℕ)) (id number event : ℕ) → All (λ entry. entry.0 < id) counts → count_of (counts ++ (id, number) ∷ []) event ≡ cond (eqb event id) number (count_of counts event)
count_of-push counts id number event greatest =
    count_of-number (counts ++ (id, number) ∷ []) event ∙ ap (λ n. unwrap_or n 0) (number_of-push counts id number event (is_held-above (events_of counts) id (All-map (λ vertex. vertex < id) (λ (entry : ℕ × ℕ). entry.0) counts greatest))) ∙ one (eqb id event) refl (eqb event id) refl
  where
    one : (same : Bool) → eqb id event ≡ same → (back : Bool) → eqb event id ≡ back → unwrap_or (cond same (Some number) (number_of counts event)) 0 ≡ cond back number (count_of counts event)
    one true same true back = refl
    one true same false back = absurd (both_ways (eqb event id) back (eq-eqb event id (sym (eqb-true id event same))))
    one false same true back = absurd (both_ways (eqb id event) same (eq-eqb id event (sym (eqb-true event id back))))
    one false same false back = sym (count_of-number counts event)

-- what stays of the entries where a number is set
pub events_of-with : (counts : List (ℕ × ℕ)) (id number : ℕ) → events_of (with_number counts id number) ≡ events_of counts
events_of-with [] id number = refl
events_of-with (entry ∷ more) id number = one (eqb entry.0 id) refl (events_of-with more id number)
  where
    one : (same : Bool) → eqb entry.0 id ≡ same → events_of (with_number more id number) ≡ events_of more → events_of (cond same (id, number) entry ∷ with_number more id number) ≡ entry.0 ∷ events_of more
    one true same rest = ap (λ e. e ∷ events_of (with_number more id number)) (sym (eqb-true entry.0 id same)) ∙ ap (λ l. entry.0 ∷ l) rest
    one false same rest = ap (λ l. entry.0 ∷ l) rest

pub All-with : (P : ℕ × ℕ → Type 0) (counts : List (ℕ × ℕ)) (id number : ℕ) → ((entry : ℕ × ℕ) → entry.0 ≡ id → P entry → P (id, number)) → All P counts → All P (with_number counts id number)
All-with P counts id number changed all = All-from_recursion P (with_number counts id number) (each counts (recursion_from_All P counts all))
  where
    one : (entry : ℕ × ℕ) (same : Bool) → eqb entry.0 id ≡ same → P entry → P (cond same (id, number) entry)
    one entry true same holds = changed entry (eqb-true entry.0 id same) holds
    one entry false same holds = holds

    each : (counts : List (ℕ × ℕ)) → AllByRecursion P counts → AllByRecursion P (with_number counts id number)
    each [] all = tt
    each (entry ∷ more) all = (one entry (eqb entry.0 id) refl all.0, each more all.1)

-- an event that is greater than the last that was born is greater than each
pub All-above : (born id : ℕ) (counts : List (ℕ × ℕ)) → born < id → All (λ entry. entry.0 ≤ born) counts → All (λ entry. entry.0 < id) counts
All-above born id counts greater latest =
    All-weaker (λ (entry : ℕ × ℕ). entry.0 ≤ born) (λ (entry : ℕ × ℕ). entry.0 < id) (λ entry most. omega (arith, most, greater)) counts latest
