-- An earlier view and a later one.
use Rattle.std.proofs.Common.{◌≡◌, ◌≢◌, ◌⊎◌, ℕ, ◌+◌, ◌<◌, ◌≤◌, suc, zero, Bool, true, false, cond, ◌||◌, not, eqb, List, [], ◌∷◌, ◌++◌, length, map, get_or, refl, sym, ap, ◌∙◌, subst, arith, inl, inr}
use Rattle.std.specs.Prelude.{Option, None, Some}
use Rattle.std.specs.List.{AllPairs}
use Rattle.std.proofs.lemmas.Bool.{eqb-true, cases_eq, false≢true}
use Rattle.std.proofs.lemmas.List.{length_push, map-append}
use Rattle.std.proofs.lemmas.List.Kept.{AllPairs-filter}
use Rattle.std.proofs.lemmas.List.Quantifiers.{all_pairs_push}
use Rattle.std.proofs.lemmas.Option.{none-some, same_Some}
use Rattle.kr_order.specs.declared.ids.ServerId.{ServerId}
use Rattle.kr_order.specs.declared.view.View.{View}
use Rattle.kr_order.specs.Numbers.{numbers_to}
use Rattle.kr_order.specs.View.{in_chain, is_joiner, first_view, names}
use Rattle.kr_protocol.specs.Manager.{joiner_but, without, with_joiner, promoted}
use Rattle.kr_protocol.specs.Evolves.{IsNext, is_without, is_joined, is_promoted, leads_nowhere, leads_on, IsRising, TheFirstViewRises, AreEarlierAndLater, LaterViewsFollow}
use Rattle.kr_protocol.proofs.NameLemmas.{member, in_chain-member, same_server, member-push, member-but, gone-member, joiner-but, gone-joiner, member-at, named_cases}

joins_cases : (joiner : Option ServerId) (id : ServerId) → is_joiner joiner id ≡ true → joiner ≡ Some id
joins_cases None id is = absurd (false≢true is)
joins_cases (Some joiner) id is = ap (λ j. Some j) (same_server joiner id (eqb-true joiner.0 id.0 is))

or_cases : (a b : Bool) → (a || b) ≡ true → (a ≡ true) ⊎ (b ≡ true)
or_cases true b is = inl refl
or_cases false b is = inr is

or_left : (a b : Bool) → a ≡ true → (a || b) ≡ true
or_left true b is = refl
or_left false b is = absurd (false≢true is)

-- who is named by the view without one is named by that view, and is another
record IsStill (view : View) (gone id : ServerId) : Type 0 where
  named : names view id ≡ true
  other : gone.0 ≢ id.0

still_named : (view : View) (gone id : ServerId) → names (without view gone) id ≡ true → IsStill view gone id
still_named view gone id named =
    elim (cases_eq gone.0 id.0) [
      | inl same ↦
          let none : names (without view gone) gone ≡ false = ap (λ b. b || is_joiner (joiner_but view.joiner gone) gone) (in_chain-member (without view gone) gone ∙ gone-member view.chain gone) ∙ gone-joiner view.joiner gone in
          absurd (false≢true (sym none ∙ ap (names (without view gone)) (same_server gone id same) ∙ named))
      | inr other ↦
          let chain : in_chain (without view gone) id ≡ in_chain view id = in_chain-member (without view gone) id ∙ member-but view.chain gone id other ∙ sym (in_chain-member view id) in
          let same : names (without view gone) id ≡ names view id = ap (λ b. b || is_joiner (joiner_but view.joiner gone) id) chain ∙ ap (λ b. in_chain view id || b) (joiner-but view.joiner gone id other) in
          record { named = sym same ∙ named; other = other }
    ]

-- and the other way
pub named_still : (view : View) (gone id : ServerId) → gone.0 ≢ id.0 → names view id ≡ true → names (without view gone) id ≡ true
named_still view gone id other named =
    let chain : in_chain (without view gone) id ≡ in_chain view id = in_chain-member (without view gone) id ∙ member-but view.chain gone id other ∙ sym (in_chain-member view id) in
    ap (λ b. b || is_joiner (joiner_but view.joiner gone) id) chain ∙ ap (λ b. in_chain view id || b) (joiner-but view.joiner gone id other) ∙ named

-- who stands beside a joiner was there, or is that joiner
with_cases : (view : View) (joiner id : ServerId) → names (with_joiner view joiner) id ≡ true → (in_chain view id ≡ true) ⊎ (joiner ≡ id)
with_cases view joiner id named =
    elim (or_cases (in_chain view id) (eqb joiner.0 id.0) named) [
      | inl member ↦ inl member
      | inr joins ↦ inr (same_server joiner id (eqb-true joiner.0 id.0 joins))
    ]

-- a promotion changes nobody's name
pub promoted_names : (view : View) (joiner id : ServerId) → view.joiner ≡ Some joiner → names (promoted view joiner) id ≡ names view id
promoted_names view joiner id is =
    let chain : in_chain (promoted view joiner) id ≡ (in_chain view id || eqb joiner.0 id.0) = in_chain-member (promoted view joiner) id ∙ member-push view.chain joiner id ∙ ap (λ b. b || eqb joiner.0 id.0) (sym (in_chain-member view id)) in
    ap (λ b. b || false) chain ∙ or_false (in_chain view id || eqb joiner.0 id.0) ∙ ap (λ j. in_chain view id || is_joiner j id) (sym is)
  where
    or_false : (b : Bool) → (b || false) ≡ b
    or_false true = refl
    or_false false = refl

-- ids still rise in the next view
rises_on : (stopped : ServerId → Bool) (view : View) (made : ℕ) (next : View) (now : ℕ) → IsRising view made → IsNext stopped view made next now → IsRising next now
rises_on stopped view made next now rising (is_without gone stops named some) =
    record {
      some = some;
      members = AllPairs-filter (λ earlier later. earlier.0 < later.0) (λ one. not (eqb one.0 gone.0)) view.chain rising.members;
      joiner = λ member joiner in_it is.
          let still = still_named view gone member (or_left (in_chain (without view gone) member) (is_joiner (joiner_but view.joiner gone) member) in_it) in
          let was : in_chain view member ≡ true = in_chain-member view member ∙ sym (member-but view.chain gone member still.other) ∙ sym (in_chain-member (without view gone) member) ∙ in_it in
          rising.joiner member joiner was (joined_before view.joiner gone joiner is);
      most = λ id named_then. rising.most id (still_named view gone id named_then).named;
    }
  where
    joined_before : (joiner : Option ServerId) (gone id : ServerId) → joiner_but joiner gone ≡ Some id → joiner ≡ Some id
    joined_before None gone id is = absurd (none-some id is)
    joined_before (Some joiner) gone id is = by_test (eqb joiner.0 gone.0) is
      where
        by_test : (test : Bool) → cond test None (Some joiner) ≡ Some id → Some joiner ≡ Some id
        by_test true none = absurd (none-some id none)
        by_test false same = same
rises_on stopped view made next now rising (is_joined none) =
    record {
      some = rising.some;
      members = rising.members;
      joiner = λ member joiner in_it is.
          let most = rising.most member (or_left (in_chain view member) (is_joiner view.joiner member) in_it) in
          let same = ap (λ (j : ServerId). j.0) (same_Some _ joiner is) in
          omega (arith, most.1, same);
      most = λ id named. elim (with_cases view (record { 0 = made + 1 }) id named) [
        | inl was ↦ let most = rising.most id (or_left (in_chain view id) (is_joiner view.joiner id) was) in (most.0, omega (arith, most.1))
        | inr same ↦ let number = ap (λ (j : ServerId). j.0) same in (omega (arith, number), omega (arith, number))
      ];
    }
rises_on stopped view made next now rising (is_promoted joiner is) =
    record {
      some = omega (arith, length_push view.chain joiner);
      members = all_pairs_push (λ earlier later. earlier.0 < later.0) view.chain joiner rising.members (λ k d lt. rising.joiner (get_or view.chain k d) joiner (in_chain-member view (get_or view.chain k d) ∙ member-at view.chain k d lt) is);
      joiner = λ member other in_it none. absurd (none-some other none);
      most = λ id named. rising.most id (sym (promoted_names view joiner id is) ∙ named);
    }

-- a view and the next
pub next_follows : (stopped : ServerId → Bool) (view : View) (made : ℕ) (next : View) (now : ℕ) → IsRising view made → IsNext stopped view made next now → AreEarlierAndLater stopped view made next now
next_follows stopped view made next now rising (is_without gone stops named some) =
    record {
      rising = rises_on stopped view made _ _ rising (is_without gone stops named some);
      number = omega arith;
      made_more = omega arith;
      newcomers = λ id named_then few. (still_named view gone id named_then).named;
      left = λ id was not_now. elim (cases_eq gone.0 id.0) [
        | inl same ↦ ap stopped (sym (same_server gone id same)) ∙ stops
        | inr other ↦ absurd (false≢true (sym not_now ∙ named_still view gone id other was))
      ];
      members = λ id in_it named_then.
          let still = still_named view gone id named_then in
          in_chain-member (without view gone) id ∙ member-but view.chain gone id still.other ∙ sym (in_chain-member view id) ∙ in_it;
    }
next_follows stopped view made next now rising (is_joined none) =
    let joiner : ServerId = record { 0 = made + 1 } in
    record {
      rising = rises_on stopped view made _ _ rising (is_joined none);
      number = omega arith;
      made_more = omega arith;
      newcomers = λ id named few. elim (with_cases view joiner id named) [
        | inl was ↦ or_left (in_chain view id) (is_joiner view.joiner id) was
        | inr same ↦ absurd (omega (arith, ap (λ (j : ServerId). j.0) same))
      ];
      left = λ id was not_now. absurd (false≢true (sym not_now ∙ or_left (in_chain view id) (eqb joiner.0 id.0) (member_of view id none was)));
      members = λ id in_it named. in_it;
    }
  where
    member_of : (view : View) (id : ServerId) → view.joiner ≡ None → names view id ≡ true → in_chain view id ≡ true
    member_of view id none named =
        elim (or_cases (in_chain view id) (is_joiner view.joiner id) named) [
          | inl member ↦ member
          | inr joins ↦ absurd (none-some id (sym none ∙ joins_cases view.joiner id joins))
        ]
next_follows stopped view made next now rising (is_promoted joiner is) =
    record {
      rising = rises_on stopped view made _ _ rising (is_promoted joiner is);
      number = omega arith;
      made_more = omega arith;
      newcomers = λ id named few. sym (promoted_names view joiner id is) ∙ named;
      left = λ id was not_now. absurd (false≢true (sym not_now ∙ promoted_names view joiner id is ∙ was));
      members = λ id in_it named.
          in_chain-member (promoted view joiner) id ∙ member-push view.chain joiner id ∙ or_left (member view.chain id) (eqb joiner.0 id.0) (sym (in_chain-member view id) ∙ in_it);
    }

-- a view and itself
pub itself_follows : (stopped : ServerId → Bool) (view : View) (made : ℕ) → IsRising view made → AreEarlierAndLater stopped view made view made
itself_follows stopped view made rising =
    record {
      rising = rising;
      number = omega arith;
      made_more = omega arith;
      newcomers = λ id named few. named;
      left = λ id was not_now. absurd (false≢true (sym not_now ∙ was));
      members = λ id in_it named. in_it;
    }

-- a later view, and the next after it
pub follows_on : (stopped : ServerId → Bool) (view : View) (made : ℕ) (later : View) (then_made : ℕ) (last : View) (now : ℕ)
    → IsRising view made → AreEarlierAndLater stopped view made later then_made → AreEarlierAndLater stopped later then_made last now
    → AreEarlierAndLater stopped view made last now
follows_on stopped view made later then_made last now rising first second =
    let more = first.made_more in
    let more' = second.made_more in
    let number = first.number in
    let number' = second.number in
    record {
      rising = second.rising;
      number = omega arith;
      made_more = omega arith;
      newcomers = λ id named few. first.newcomers id (second.newcomers id named (omega arith)) few;
      left = λ id was not_now. by_middle id (names later id) refl was not_now;
      members = λ id in_it named.
          let most = (rising.most id (or_left (in_chain view id) (is_joiner view.joiner id) in_it)).1 in
          let between = second.newcomers id named (omega arith) in
          second.members id (first.members id in_it between) named;
    }
  where
    by_middle : (id : ServerId) (test : Bool) → names later id ≡ test → names view id ≡ true → names last id ≡ false → stopped id ≡ true
    by_middle id true is was not_now = second.left id is not_now
    by_middle id false is was not_now = first.left id was is

pub later_follow : LaterViewsFollow
later_follow stopped view made later now rising leads_nowhere = itself_follows stopped view made rising
later_follow stopped view made later now rising (leads_on middle then_made last after leads next) =
    let first = later_follow stopped view made middle then_made rising leads in
    follows_on stopped view made middle then_made _ _ rising first (next_follows stopped middle then_made _ _ first.rising next)

-- so many servers, in the order of their numbers
abbrev numbered : ℕ → List ServerId
numbered n = map (λ k. record { 0 = k }) (numbers_to n)

record IsCounted (chain : List ServerId) (n : ℕ) : Type 0 where
  long : length chain ≡ n
  members : AllPairs (λ earlier later. earlier.0 < later.0) chain
  most : (id : ServerId) → member chain id ≡ true → (1 ≤ id.0) × (id.0 ≤ n)

one_more : (chain : List ServerId) (n : ℕ) → IsCounted chain n → IsCounted (chain ++ record { 0 = n + 1 } ∷ []) (n + 1)
one_more chain n known =
    let last : ServerId = record { 0 = n + 1 } in
    let long = known.long in
    record {
      long = omega (arith, length_push chain last);
      members = all_pairs_push (λ earlier later. earlier.0 < later.0) chain last known.members (λ k d lt. let most = (known.most (get_or chain k d) (member-at chain k d lt)).1 in omega arith);
      most = λ id in_it. elim (or_cases (member chain id) (eqb last.0 id.0) (sym (member-push chain last id) ∙ in_it)) [
        | inl was ↦ let most = known.most id was in (most.0, omega (arith, most.1))
        | inr same ↦ let is = eqb-true last.0 id.0 same in (omega arith, omega arith)
      ];
    }

numbered_counted : (n : ℕ) → IsCounted (numbered n) n
numbered_counted zero =
    record {
      long = refl;
      members = λ i j d lt within. absurd (omega arith);
      most = λ id in_it. absurd (false≢true in_it);
    }
numbered_counted (suc n) =
    let f : ℕ → ServerId = λ k. record { 0 = k } in
    let more = one_more (numbered n) n (numbered_counted n) in
    let same : numbered (suc n) ≡ numbered n ++ f (n + 1) ∷ [] = map-append f (numbers_to n) ((n + 1) ∷ []) in
    subst (λ m. IsCounted (numbered (suc n)) m) (omega arith) (subst (λ chain. IsCounted chain (n + 1)) (sym same) more)

pub first_rises : TheFirstViewRises
first_rises servers some =
    let known = numbered_counted servers in
    let long = known.long in
    record {
      some = omega arith;
      members = known.members;
      joiner = λ member joiner in_it none. absurd (none-some joiner none);
      most = λ id named. elim (named_cases (first_view servers) id named) [
        | inl in_it ↦ known.most id in_it
        | inr joins ↦ absurd (false≢true joins)
      ];
    }
