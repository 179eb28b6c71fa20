-- Who is in the first view.
use Rattle.std.proofs.Common.{zero, suc, ◌≡◌, ℕ, ◌+◌, ◌<◌, Bool, true, not, eqb, ltb, List, [], ◌∷◌, length, map, get_or, refl, sym, ap, ◌∙◌, subst, arith, inl, inr}
use Rattle.std.specs.Prelude.{Option, Some, is_some, slice_get, option_map}
use Rattle.std.specs.List.{position_or_len}
use Rattle.std.proofs.lemmas.List.Sums.{prefix_len_is}
use Rattle.std.proofs.lemmas.Bool.{cases_eq, lt-ltb, eq-eqb, ne_eqb}
use Rattle.std.proofs.lemmas.List.{length-map}
use Rattle.std.proofs.lemmas.Option.{same_Some, slice_get_within, slice_get-map, get_or_from_slice_get}
use Rattle.kr_order.specs.declared.ids.ServerId.{ServerId}
use Rattle.kr_order.specs.View.{index_in, in_chain, first_view}
use Rattle.kr_order.specs.Numbers.{numbers_to}
use Rattle.kr_world.proofs.chain.ChainLemmas.{server_id}
use Rattle.kr_protocol.proofs.ListLemmas.{length-numbers_to, slice_get_left, slice_get_at}

pub numbers_at : (n i : ℕ) → i < n → slice_get (numbers_to n) i ≡ Some (i + 1)
numbers_at zero i lt = absurd (omega arith)
numbers_at (suc n) i lt =
    elim (cases_eq i n) [
      | inl last ↦ subst (λ k. slice_get (numbers_to (suc n)) k ≡ Some (k + 1)) (sym last) (slice_get_at (numbers_to n) (n + 1) [] n (length-numbers_to n))
      | inr earlier ↦ slice_get_left (numbers_to n) ((n + 1) ∷ []) i (i + 1) (numbers_at n i (omega arith))
    ]

-- what is made of each number stands at it
pub length-made : {X : Type 0} (make : ℕ → X) (n : ℕ) → length (map make (numbers_to n)) ≡ n
length-made make n = length-map (numbers_to n) make ∙ length-numbers_to n

pub made_at : {X : Type 0} (make : ℕ → X) (n i : ℕ) (x : X) → slice_get (map make (numbers_to n)) i ≡ Some x
    → (i < n) × (make (i + 1) ≡ x)
made_at make n i x is =
    let lt : i < n = subst (λ k. i < k) (length-made make n) (slice_get_within (map make (numbers_to n)) i x is) in
    let made : slice_get (map make (numbers_to n)) i ≡ Some (make (i + 1)) = slice_get-map make (numbers_to n) i ∙ ap (option_map make) (numbers_at n i lt) in
    (lt, same_Some (make (i + 1)) x (sym made ∙ is))

-- the first member of the first view to pass a test on numbers that only this one passes
abbrev members : ℕ → List ServerId
members n = map server_id (numbers_to n)

pub length-members : (n : ℕ) → length (members n) ≡ n
length-members n = length-made server_id n

pub member_at : (n i : ℕ) → i < n → slice_get (members n) i ≡ Some (server_id (i + 1))
member_at n i lt = slice_get-map server_id (numbers_to n) i ∙ ap (option_map server_id) (numbers_at n i lt)

member_or : (n i : ℕ) (d : ServerId) → i < n → get_or (members n) i d ≡ server_id (i + 1)
member_or n i d lt = get_or_from_slice_get (members n) i (server_id (i + 1)) d (member_at n i lt)

-- the i-th member is found at i
pub index_of_member : (n i : ℕ) → i < n → index_in (first_view n) (server_id (i + 1)) ≡ Some i
index_of_member n i lt =
    let p : ServerId → Bool = λ member. eqb member.0 (i + 1) in
    let d = server_id 0 in
    let at : position_or_len p (members n) ≡ i =
    prefix_len_is (λ m. not (p m)) (members n) i d (omega (arith, length-members n))
    (λ k below. ap (λ (m : ServerId). not (p m)) (member_or n k d (omega arith)) ∙ ap not (ne_eqb (k + 1) (i + 1) (omega arith)))
    (λ inside. ap (λ (m : ServerId). not (p m)) (member_or n i d lt) ∙ ap not (eq-eqb (i + 1) (i + 1) refl)) in
    let inside : ltb (position_or_len p (members n)) (length (members n)) ≡ true =
    lt-ltb (position_or_len p (members n)) (length (members n)) (omega (arith, length-members n)) in
    rw (inside, at) refl

-- members of the first view, by their numbers
pub in_first_view : (n i : ℕ) → i < n → in_chain (first_view n) (server_id (i + 1)) ≡ true
in_first_view n i lt = ap (λ (o : Option ℕ). is_some o) (index_of_member n i lt)
