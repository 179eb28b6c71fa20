-- Who stands before and after whom in a chain whose ids rise: the one with the nearest id.
use Rattle.std.proofs.Common.{◌≡◌, ◌≢◌, ◌⊎◌, ℕ, ◌+◌, ◌-◌, ◌<◌, ◌≤◌, suc, zero, Bool, true, false, cond, ◌||◌, eqb, List, length, get_or, refl, sym, ap, ◌∙◌, subst, arith, inl, inr}
use Rattle.std.specs.Prelude.{Option, None, Some, is_some, is_none, slice_get}
use Rattle.std.proofs.lemmas.Bool.{cases_eq, cases_lt, eqb-true, eq-eqb, ne_eqb, lt-ltb, false≢true, and_parts}
use Rattle.std.proofs.lemmas.Option.{none-some, same_Some, slice_get_within, slice_get-get_or, get_or_from_slice_get}
use Rattle.std.proofs.lemmas.List.Quantifiers.{position-Some}
use Rattle.std.proofs.lemmas.List.Sums.{position_or_len_is}
use Rattle.kr_order.specs.declared.ids.ServerId.{ServerId}
use Rattle.kr_order.specs.declared.view.View.{View}
use Rattle.kr_order.specs.View.{index_in, in_chain, is_joiner, or_joiner, next_at, next_of, last_member, prev_at, prev_of, is_tail, names}
use Rattle.kr_protocol.specs.Evolves.{IsRising}
use Rattle.kr_protocol.proofs.NameLemmas.{same_server, joiner_named}

-- the server stands at an index of the chain
record StandsIn (view : View) (id : ServerId) : Type 0 where
  i : ℕ
  at : slice_get view.chain i ≡ Some id
  found : index_in view id ≡ Some i

found_at : (view : View) (id : ServerId) (i : ℕ) → index_in view id ≡ Some i → slice_get view.chain i ≡ Some id
found_at view id i is =
    let known = position-Some (λ member. eqb member.0 id.0) view.chain i id is in
    slice_get-get_or view.chain i id known.0 ∙ ap (λ s. Some s) (same_server (get_or view.chain i id) id (eqb-true (get_or view.chain i id).0 id.0 known.1))

stands : (view : View) (id : ServerId) → in_chain view id ≡ true → StandsIn view id
stands view id is = by_index (index_in view id) refl is
  where
    by_index : (index : Option ℕ) → index_in view id ≡ index → is_some index ≡ true → StandsIn view id
    by_index None found is = absurd (false≢true is)
    by_index (Some i) found is = record { i = i; at = found_at view id i found; found = found }

-- ids rise by index
rises_by : (view : View) (made : ℕ) → IsRising view made → (i j : ℕ) (one other : ServerId) → i < j
    → slice_get view.chain i ≡ Some one → slice_get view.chain j ≡ Some other → one.0 < other.0
rises_by view made rising i j one other lt at at' =
    let within = slice_get_within view.chain j other at' in
    let less = rising.members i j one lt within in
    let same = ap (λ (s : ServerId). s.0) (get_or_from_slice_get view.chain i one one at) in
    let same' = ap (λ (s : ServerId). s.0) (get_or_from_slice_get view.chain j other one at') in
    omega (arith, same, same')

-- who stands at an index is found there
pub index_at : (view : View) (made : ℕ) → IsRising view made → (i : ℕ) (id : ServerId) → slice_get view.chain i ≡ Some id → index_in view id ≡ Some i
index_at view made rising i id at =
    let p : ServerId → Bool = λ member. eqb member.0 id.0 in
    let within = slice_get_within view.chain i id at in
    let first = position_or_len_is p view.chain i id (omega arith)
    (λ k lt. let less = rises_by view made rising k i (get_or view.chain k id) id lt (slice_get-get_or view.chain k id (omega arith)) at in ne_eqb (get_or view.chain k id).0 id.0 (λ same. omega arith))
    (λ inside. ap (λ (s : ServerId). p s) (get_or_from_slice_get view.chain i id id at) ∙ eq-eqb id.0 id.0 refl) in
    rw (first, lt-ltb i (length view.chain) within) refl

pub in_it : (view : View) (made : ℕ) → IsRising view made → (i : ℕ) (id : ServerId) → slice_get view.chain i ≡ Some id → in_chain view id ≡ true
in_it view made rising i id at = ap (λ (o : Option ℕ). is_some o) (index_at view made rising i id at)

-- a greater index is that of a greater id, and the other way round
before_by : (view : View) (made : ℕ) → IsRising view made → (i j : ℕ) (one other : ServerId) → one.0 < other.0
    → slice_get view.chain i ≡ Some one → slice_get view.chain j ≡ Some other → i < j
before_by view made rising i j one other less at at' =
    elim (cases_lt i j) [
      | inl lt ↦ lt
      | inr le ↦ by_same (cases_eq i j) le
    ]
  where
    by_same : (i ≡ j) ⊎ (i ≢ j) → j ≤ i → i < j
    by_same (inl same) le = absurd (omega (arith, ap (λ (s : ServerId). s.0) (same_Some one other (sym at ∙ subst (λ k. slice_get view.chain k ≡ Some other) (sym same) at'))))
    by_same (inr differ) le = absurd (omega (arith, rises_by view made rising j i other one (omega arith) at' at))

pub member_is_named : (view : View) (id : ServerId) → in_chain view id ≡ true → names view id ≡ true
member_is_named view id is = ap (λ b. b || is_joiner view.joiner id) is

-- who is named is a member, or joins
pub member_or_joiner : (view : View) (id : ServerId) → names view id ≡ true → (in_chain view id ≡ true) ⊎ ((in_chain view id ≡ false) × (view.joiner ≡ Some id))
member_or_joiner view id named = by_test (in_chain view id) refl named
  where
    joins : (joiner : Option ServerId) → is_joiner joiner id ≡ true → joiner ≡ Some id
    joins None is = absurd (false≢true is)
    joins (Some joiner) is = ap (λ s. Some s) (same_server joiner id (eqb-true joiner.0 id.0 is))

    by_test : (test : Bool) → in_chain view id ≡ test → (test || is_joiner view.joiner id) ≡ true → (in_chain view id ≡ true) ⊎ ((in_chain view id ≡ false) × (view.joiner ≡ Some id))
    by_test true is named = inl is
    by_test false is named = inr (is, joins view.joiner named)

-- the last member has the greatest id of the chain
pub record IsLast (view : View) (id : ServerId) : Type 0 where
  pub member : in_chain view id ≡ true
  pub greatest : (other : ServerId) → in_chain view other ≡ true → other.0 ≤ id.0

pub last_is : (view : View) (made : ℕ) → IsRising view made → (id : ServerId) → last_member view ≡ Some id → IsLast view id
last_is view made rising id is =
    record {
      member = in_it view made rising (length view.chain - 1) id is;
      greatest = λ other in_chain. by_index other (stands view other in_chain);
    }
  where
    by_index : (other : ServerId) → StandsIn view other → other.0 ≤ id.0
    by_index other at =
        let within = slice_get_within view.chain at.i other at.at in
        elim (cases_lt at.i (length view.chain - 1)) [
          | inl lt ↦ let less = rises_by view made rising at.i (length view.chain - 1) other id lt at.at is in omega arith
          | inr le ↦ omega (arith, ap (λ (s : ServerId). s.0) (same_Some other id (sym at.at ∙ subst (λ k. slice_get view.chain k ≡ Some id) (omega arith) is)))
        ]

-- there is one
pub has_last : (view : View) (made : ℕ) → IsRising view made → (id : ServerId) × (last_member view ≡ Some id)
has_last view made rising =
    let none : ServerId = record { 0 = 0 } in
    let some = rising.some in
    (get_or view.chain (length view.chain - 1) none, slice_get-get_or view.chain (length view.chain - 1) none (omega arith))

pub is_the_last : (view : View) (made : ℕ) → IsRising view made → (id : ServerId) → IsLast view id → last_member view ≡ Some id
is_the_last view made rising id last =
    let has = has_last view made rising in
    let its = last_is view made rising has.0 has.1 in
    let le = its.greatest id last.member in
    let ge = last.greatest has.0 its.member in
    has.1 ∙ ap (λ s. Some s) (same_server has.0 id (omega arith))

-- the member that stands before the server: of those before it that with the greatest id
pub record IsBefore (view : View) (before id : ServerId) : Type 0 where
  pub member : in_chain view before ≡ true
  pub named : names view id ≡ true
  pub lt : before.0 < id.0
  pub nearest : (other : ServerId) → names view other ≡ true → other.0 < id.0 → other.0 ≤ before.0

-- a joiner has the greatest id
pub under_joiner : (view : View) (made : ℕ) → IsRising view made → (id other : ServerId) → view.joiner ≡ Some id → names view other ≡ true → other.0 < id.0 → in_chain view other ≡ true
under_joiner view made rising id other joins named lt = by_kind (member_or_joiner view other named)
  where
    by_kind : (in_chain view other ≡ true) ⊎ ((in_chain view other ≡ false) × (view.joiner ≡ Some other)) → in_chain view other ≡ true
    by_kind (inl member) = member
    by_kind (inr both) = absurd (omega (arith, ap (λ (s : ServerId). s.0) (same_Some other id (sym both.1 ∙ joins))))

-- and members have smaller ones
pub under_member : (view : View) (made : ℕ) → IsRising view made → (id other : ServerId) → in_chain view id ≡ true → names view other ≡ true → other.0 ≤ id.0 → in_chain view other ≡ true
under_member view made rising id other member named le = by_kind (member_or_joiner view other named)
  where
    by_kind : (in_chain view other ≡ true) ⊎ ((in_chain view other ≡ false) × (view.joiner ≡ Some other)) → in_chain view other ≡ true
    by_kind (inl member') = member'
    by_kind (inr both) = absurd (omega (arith, rising.joiner id other member both.1))

prev_inside : (view : View) (made : ℕ) → IsRising view made → (i : ℕ) (before id : ServerId) → slice_get view.chain i ≡ Some before → slice_get view.chain (i + 1) ≡ Some id → IsBefore view before id
prev_inside view made rising i before id at at' =
    let member = in_it view made rising (i + 1) id at' in
    record {
      member = in_it view made rising i before at;
      named = member_is_named view id member;
      lt = rises_by view made rising i (i + 1) before id (omega arith) at at';
      nearest = λ other named less. by_index other less (stands view other (under_member view made rising id other member named (omega arith)));
    }
  where
    by_index : (other : ServerId) → other.0 < id.0 → StandsIn view other → other.0 ≤ before.0
    by_index other less stand =
        let lt = before_by view made rising stand.i (i + 1) other id less stand.at at' in
        elim (cases_lt stand.i i) [
          | inl below ↦ let less' = rises_by view made rising stand.i i other before below stand.at at in omega arith
          | inr le ↦ omega (arith, ap (λ (s : ServerId). s.0) (same_Some other before (sym stand.at ∙ subst (λ k. slice_get view.chain k ≡ Some before) (omega arith) at)))
        ]

prev_of_joiner : (view : View) (made : ℕ) → IsRising view made → (before id : ServerId) → view.joiner ≡ Some id → last_member view ≡ Some before → IsBefore view before id
prev_of_joiner view made rising before id joins is =
    let last = last_is view made rising before is in
    record {
      member = last.member;
      named = joiner_named view id (ap (λ j. is_joiner j id) joins ∙ eq-eqb id.0 id.0 refl);
      lt = rising.joiner before id last.member joins;
      nearest = λ other named less. last.greatest other (under_joiner view made rising id other joins named less);
    }

joiner_is : (joiner : Option ServerId) (id : ServerId) → is_joiner joiner id ≡ true → joiner ≡ Some id
joiner_is None id is = absurd (false≢true is)
joiner_is (Some joiner) id is = ap (λ s. Some s) (same_server joiner id (eqb-true joiner.0 id.0 is))

pub prev_before : (view : View) (made : ℕ) → IsRising view made → (before id : ServerId) → prev_of view id ≡ Some before → IsBefore view before id
prev_before view made rising before id is = by_index (index_in view id) refl is
  where
    by_joins : (joins : Bool) → is_joiner view.joiner id ≡ joins → cond joins (last_member view) None ≡ Some before → IsBefore view before id
    by_joins true joins is = prev_of_joiner view made rising before id (joiner_is view.joiner id joins) is
    by_joins false joins is = absurd (none-some before is)

    by_index : (index : Option ℕ) → index_in view id ≡ index → prev_at view id index ≡ Some before → IsBefore view before id
    by_index None found is = by_joins (is_joiner view.joiner id) refl is
    by_index (Some zero) found is = absurd (none-some before is)
    by_index (Some (suc i)) found is = prev_inside view made rising i before id is (subst (λ k. slice_get view.chain k ≡ Some id) (omega arith) (found_at view id (suc i) found))

-- there is one member before a server where some one named has a smaller id
pub has_prev : (view : View) (made : ℕ) → IsRising view made → (id other : ServerId) → names view id ≡ true → names view other ≡ true → other.0 < id.0
    → (before : ServerId) × (prev_of view id ≡ Some before)
has_prev view made rising id other named named' lt = by_index (index_in view id) refl
  where
    other_member : in_chain view id ≡ true → in_chain view other ≡ true
    other_member member = under_member view made rising id other member named' (omega arith)

    by_kind : index_in view id ≡ None → (in_chain view id ≡ true) ⊎ ((in_chain view id ≡ false) × (view.joiner ≡ Some id)) → (before : ServerId) × (prev_at view id None ≡ Some before)
    by_kind none (inl member) = absurd (false≢true (sym (ap (λ (o : Option ℕ). is_some o) none) ∙ member))
    by_kind none (inr both) =
        let has = has_last view made rising in
        (has.0, rw (ap (λ j. is_joiner j id) both.1, eq-eqb id.0 id.0 refl) has.1)

    by_index : (index : Option ℕ) → index_in view id ≡ index → (before : ServerId) × (prev_of view id ≡ Some before)
    by_index None found = let has = by_kind found (member_or_joiner view id named) in (has.0, ap (prev_at view id) found ∙ has.1)
    by_index (Some zero) found =
        let member = ap (λ (o : Option ℕ). is_some o) found in
        let stand = stands view other (other_member member) in
        absurd (omega (arith, before_by view made rising stand.i 0 other id lt stand.at (found_at view id 0 found)))
    by_index (Some (suc i)) found =
        let within = slice_get_within view.chain (suc i) id (found_at view id (suc i) found) in
        (get_or view.chain i id, ap (prev_at view id) found ∙ slice_get-get_or view.chain i id (omega arith))

pub before_prev : (view : View) (made : ℕ) → IsRising view made → (before id : ServerId) → IsBefore view before id → prev_of view id ≡ Some before
before_prev view made rising before id is =
    let has = has_prev view made rising id before is.named (member_is_named view before is.member) is.lt in
    let its = prev_before view made rising has.0 id has.1 in
    let lt = its.lt in
    let le = is.nearest has.0 (member_is_named view has.0 its.member) lt in
    let ge = its.nearest before (member_is_named view before is.member) is.lt in
    has.1 ∙ ap (λ s. Some s) (same_server has.0 before (omega arith))

-- who follows a server has it before
pub next_prev : (view : View) (made : ℕ) → IsRising view made → (id next : ServerId) → next_of view id ≡ Some next → (in_chain view id ≡ true) × (prev_of view next ≡ Some id)
next_prev view made rising id next is = by_index (index_in view id) refl is
  where
    by_next : (i : ℕ) → index_in view id ≡ Some i → (found : Option ServerId) → slice_get view.chain (i + 1) ≡ found → or_joiner found view.joiner ≡ Some next → prev_of view next ≡ Some id
    by_next i found (Some other) at is =
        before_prev view made rising id next (prev_inside view made rising i id next (found_at view id i found) (at ∙ is))
    by_next i found None at is =
        let here = found_at view id i found in
        let within = slice_get_within view.chain i id here in
        let past : length view.chain ≤ i + 1 = none_past view.chain (i + 1) at in
        before_prev view made rising id next (prev_of_joiner view made rising id next is (subst (λ k. slice_get view.chain k ≡ Some id) (omega arith) here))
      where
        none_past : (xs : List ServerId) (k : ℕ) → slice_get xs k ≡ None → length xs ≤ k
        none_past xs k none = elim (cases_lt k (length xs)) [
          | inl lt ↦ absurd (none-some (get_or xs k id) (sym none ∙ slice_get-get_or xs k id lt))
          | inr le ↦ le
        ]

    by_index : (index : Option ℕ) → index_in view id ≡ index → next_at view index ≡ Some next → (in_chain view id ≡ true) × (prev_of view next ≡ Some id)
    by_index None found is = absurd (none-some next is)
    by_index (Some i) found is = (ap (λ (o : Option ℕ). is_some o) found, by_next i found (slice_get view.chain (i + 1)) refl is)

-- the tail is the last member, and nobody joins
pub tail_last : (view : View) (made : ℕ) → IsRising view made → (id : ServerId) → is_tail view id ≡ true → (last_member view ≡ Some id) × (view.joiner ≡ None)
tail_last view made rising id is = by_index (index_in view id) refl
  where
    none_follows : next_of view id ≡ None
    none_follows = none_found (next_of view id) (and_parts (in_chain view id) (is_none (next_of view id)) is).1
      where
        none_found : (found : Option ServerId) → is_none found ≡ true → found ≡ None
        none_found None is = refl
        none_found (Some other) is = absurd (false≢true is)

    by_next : (i : ℕ) → slice_get view.chain i ≡ Some id → (found : Option ServerId) → slice_get view.chain (i + 1) ≡ found → or_joiner found view.joiner ≡ None → (last_member view ≡ Some id) × (view.joiner ≡ None)
    by_next i here (Some other) at none = absurd (none-some other (sym none))
    by_next i here None at none =
        let within = slice_get_within view.chain i id here in
        let past : length view.chain ≤ i + 1 = elim (cases_lt (i + 1) (length view.chain)) [
          | inl lt ↦ absurd (none-some (get_or view.chain (i + 1) id) (sym at ∙ slice_get-get_or view.chain (i + 1) id lt))
          | inr le ↦ le
        ] in
        (subst (λ k. slice_get view.chain k ≡ Some id) (omega arith) here, none)

    by_index : (index : Option ℕ) → index_in view id ≡ index → (last_member view ≡ Some id) × (view.joiner ≡ None)
    by_index None found = absurd (false≢true (sym (ap (λ (o : Option ℕ). is_some o) found) ∙ (and_parts (in_chain view id) (is_none (next_of view id)) is).0))
    by_index (Some i) found = by_next i (found_at view id i found) (slice_get view.chain (i + 1)) refl (sym (ap (next_at view) found) ∙ none_follows)

-- nobody joins behind the tail, whatever the view is
pub tail_alone : (view : View) (id : ServerId) → is_tail view id ≡ true → view.joiner ≡ None
tail_alone view id is = by_index (index_in view id) refl
  where
    none_found : (found : Option ServerId) → is_none found ≡ true → found ≡ None
    none_found None is = refl
    none_found (Some other) is = absurd (false≢true is)

    by_found : (found : Option ServerId) → or_joiner found view.joiner ≡ None → view.joiner ≡ None
    by_found None none = none
    by_found (Some other) none = absurd (none-some other (sym none))

    by_index : (index : Option ℕ) → index_in view id ≡ index → view.joiner ≡ None
    by_index None found = absurd (false≢true (sym (ap (λ (o : Option ℕ). is_some o) found) ∙ (and_parts (in_chain view id) (is_none (next_of view id)) is).0))
    by_index (Some i) found = by_found (slice_get view.chain (i + 1)) (sym (ap (next_at view) found) ∙ none_found (next_of view id) (and_parts (in_chain view id) (is_none (next_of view id)) is).1)
