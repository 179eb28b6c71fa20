-- Paths of pairs: they go on over more pairs, can be joined, and close no cycle where a pair is added that the
-- order doesn't forbid.
use Rattle.std.proofs.Common.{◌≡◌, ℕ, ◌+◌, ◌<◌, Bool, true, false, cond, ◌&&◌, ◌||◌, eqb, List, [], ◌∷◌, ◌++◌, length, get_or, take, refl, sym, ap, ◌∙◌, subst, inl, inr}
use Rattle.std.specs.Prelude.{reverse}
use Rattle.std.proofs.lemmas.Bool.{and_from, both_ways, eq-eqb, eqb-false, false_from_ne_true, or_left, or_right, or_parts}
use Rattle.std.proofs.lemmas.List.{reverse-append, take_more}
use Rattle.kr_order.specs.Prefix.{IsPrefix}
use Rattle.kr_order.specs.Order.{reach, IsAcyclic, add}
use Rattle.kr_order.specs.Laws.{APathGoesOverAPair}
use Rattle.kr_order.proofs.PrefixLemmas.{IsPrefix-refl, IsPrefix-append, IsPrefix-take}
use Rattle.kr_order.proofs.PathLemmas.{leads, IsOrLeads, leads_cases, or_joined, leads_more, leads-trans}
use Rattle.kr_order.proofs.RoundLemmas.{reach-leads}

-- what is before over one pair more
pub reach-push : (pairs : List (ℕ × ℕ)) (x y a b : ℕ) → reach (pairs ++ (x, y) ∷ []) a b ≡ (reach pairs a b || ((eqb a x || reach pairs a x) && (eqb y b || reach pairs y b)))
reach-push pairs x y a b =
    let older : List (ℕ × ℕ) = reverse pairs in
    let to = ap (λ t. leads older a b || ((eqb a x || t) && (eqb y b || leads older y b))) (sym (reach-leads pairs a x)) in
    let on = ap (λ t. leads older a b || ((eqb a x || reach pairs a x) && (eqb y b || t))) (sym (reach-leads pairs y b)) in
    let past = ap (λ t. t || ((eqb a x || reach pairs a x) && (eqb y b || reach pairs y b))) (sym (reach-leads pairs a b)) in
    reach-leads (pairs ++ (x, y) ∷ []) a b ∙ ap (λ newest. leads newest a b) (reverse-append pairs ((x, y) ∷ [])) ∙ to ∙ on ∙ past

-- what is before, one pair after the other
pub before_by_pairs : APathGoesOverAPair
before_by_pairs = record { no_pair = λ a b. refl; pair = reach-push }

-- what is before, as a path, and the other way round
pub reach-path : (pairs : List (ℕ × ℕ)) (a b : ℕ) → reach pairs a b ≡ true → leads (reverse pairs) a b ≡ true
reach-path pairs a b before = sym (reach-leads pairs a b) ∙ before

pub reach-from_path : (pairs : List (ℕ × ℕ)) (a b : ℕ) → leads (reverse pairs) a b ≡ true → reach pairs a b ≡ true
reach-from_path pairs a b path = reach-leads pairs a b ∙ path

-- before is transitive
pub reach-trans : (pairs : List (ℕ × ℕ)) (a b c : ℕ) → reach pairs a b ≡ true → reach pairs b c ≡ true → reach pairs a c ≡ true
reach-trans pairs a b c ab bc =
    reach-from_path pairs a c (leads-trans (reverse pairs) a b c (reach-path pairs a b ab) (reach-path pairs b c bc))

-- what is before stays before in a longer order
pub reach_more : (old new : List (ℕ × ℕ)) (a b : ℕ) → IsPrefix old new → reach old a b ≡ true → reach new a b ≡ true
reach_more old new a b front path =
    let longer : leads (reverse front.more ++ reverse old) a b ≡ true = leads_more (reverse front.more) (reverse old) a b (reach-path old a b path) in
    reach-from_path new a b (subst (λ newest. leads newest a b ≡ true) (sym (ap reverse front.is ∙ reverse-append old front.more)) longer)

-- a pair that comes last puts its first event before its second
reach_last : (pairs : List (ℕ × ℕ)) (x y : ℕ) → reach (pairs ++ (x, y) ∷ []) x y ≡ true
reach_last pairs x y =
    reach-push pairs x y x y ∙ or_right (reach pairs x y) ((eqb x x || reach pairs x x) && (eqb y y || reach pairs y y)) (and_from (eqb x x || reach pairs x x) (eqb y y || reach pairs y y) (or_left (eqb x x) (reach pairs x x) (eq-eqb x x refl)) (or_left (eqb y y) (reach pairs y y) (eq-eqb y y refl)))

-- each pair of the order does
pub reach_pair : (pairs : List (ℕ × ℕ)) (i : ℕ) (d : ℕ × ℕ) → i < length pairs → reach pairs (get_or pairs i d).0 (get_or pairs i d).1 ≡ true
reach_pair pairs i d below =
    let pair = get_or pairs i d in
    let last : reach (take (i + 1) pairs) pair.0 pair.1 ≡ true = subst (λ front. reach front pair.0 pair.1 ≡ true) (sym (take_more pairs i d below)) (reach_last (take i pairs) pair.0 pair.1) in
    reach_more (take (i + 1) pairs) pairs pair.0 pair.1 (IsPrefix-take (i + 1) pairs) last

-- in an order without a cycle an event before another is not behind it
pub never_back : (pairs : List (ℕ × ℕ)) (a b : ℕ) → IsAcyclic pairs → reach pairs a b ≡ true → reach pairs b a ≡ false
never_back pairs a b acyclic path =
    false_from_ne_true (reach pairs b a) (λ back. both_ways (reach pairs a a) (acyclic.no_cycle a) (reach-trans pairs a b a path back))

pub IsAcyclic-nil : IsAcyclic []
IsAcyclic-nil = record { no_cycle = λ event. refl }

-- a pair whose second event is neither its first nor before it closes no cycle
pub IsAcyclic-push : (pairs : List (ℕ × ℕ)) (a b : ℕ) → IsAcyclic pairs → (eqb a b || reach pairs b a) ≡ false → IsAcyclic (pairs ++ (a, b) ∷ [])
IsAcyclic-push pairs a b acyclic allowed =
    record { no_cycle = λ event. false_from_ne_true (reach (pairs ++ (a, b) ∷ []) event event) (λ cycle. open_at event (sym (ap (λ newest. leads newest event event) (reverse-append pairs ((a, b) ∷ []))) ∙ reach-path (pairs ++ (a, b) ∷ []) event event cycle)) }
  where
    apart : IsOrLeads (reverse pairs) b a → ⊥
    apart (inl same) = eqb-false a b (or_parts (eqb a b) (reach pairs b a) allowed).0 (sym same)
    apart (inr path) = both_ways (reach pairs b a) (or_parts (eqb a b) (reach pairs b a) allowed).1 (reach-from_path pairs b a path)

    open_at : (event : ℕ) → leads ((a, b) ∷ reverse pairs) event event ≡ true → ⊥
    open_at event cycle =
        elim (leads_cases (a, b) (reverse pairs) event event cycle) [
          | inl path ↦ both_ways (reach pairs event event) (acyclic.no_cycle event) (reach-from_path pairs event event path)
          | inr over ↦ apart (or_joined (reverse pairs) b event a (leads-trans (reverse pairs) b event a) over.on over.to)
        ]

-- an order with a pair is the order, with at most this pair behind it
pub IsPrefix-add : (pairs : List (ℕ × ℕ)) (a b : ℕ) → IsPrefix pairs (add pairs a b)
IsPrefix-add pairs a b =
    elim (reach pairs a b) as (λ said. IsPrefix pairs (cond said pairs (pairs ++ (a, b) ∷ []))) [ true ↦ IsPrefix-refl pairs | false ↦ IsPrefix-append pairs ((a, b) ∷ []) ]

pub IsAcyclic-add : (pairs : List (ℕ × ℕ)) (a b : ℕ) → IsAcyclic pairs → (eqb a b || reach pairs b a) ≡ false → IsAcyclic (add pairs a b)
IsAcyclic-add pairs a b acyclic allowed =
    elim (reach pairs a b) as (λ said. IsAcyclic (cond said pairs (pairs ++ (a, b) ∷ []))) [ true ↦ acyclic | false ↦ IsAcyclic-push pairs a b acyclic allowed ]

-- an order with a pair says it
pub reach-add : (pairs : List (ℕ × ℕ)) (a b : ℕ) → reach (add pairs a b) a b ≡ true
reach-add pairs a b = by_test (reach pairs a b) refl
  where
    by_test : (said : Bool) → reach pairs a b ≡ said → reach (cond said pairs (pairs ++ (a, b) ∷ [])) a b ≡ true
    by_test true is = is
    by_test false is = reach-push pairs a b a b ∙ or_right (reach pairs a b) ((eqb a a || reach pairs a a) && (eqb b b || reach pairs b b)) (and_from (eqb a a || reach pairs a a) (eqb b b || reach pairs b b) (or_left (eqb a a) (reach pairs a a) (eq-eqb a a refl)) (or_left (eqb b b) (reach pairs b b) (eq-eqb b b refl)))
