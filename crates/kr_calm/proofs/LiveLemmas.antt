-- Every server that runs is a member, where no server joins.
use Rattle.kr_protocol.specs.Server.{Server}
use Rattle.kr_protocol.specs.Manager.{Manager, with_joiner}
use Rattle.kr_order.specs.View.{in_chain, is_joiner, first_view, names}
use Rattle.kr_protocol.specs.Evolves.{Evolves, begins, goes_on, IsNext, is_without, is_joined, is_promoted}
use Rattle.kr_protocol.proofs.EvolveLemmas.{named_still, promoted_names}
use Rattle.std.proofs.Common.{Bool, List, ap, arith, eqb, false, get_or, inl, inr, refl, subst, sym, true, ℕ, ◌+◌, ◌-◌, ◌<◌, ◌||◌, ◌∙◌, ◌≡◌, ◌≤◌, ◌⊎◌}
use Rattle.std.specs.Prelude.{None, Option, Some, is_some, position, slice_get}
use Rattle.std.proofs.lemmas.Bool.{cases_lt, eq-eqb, eqb-true, false≢true}
use Rattle.std.proofs.lemmas.List.Quantifiers.{position-Some}
use Rattle.std.proofs.lemmas.Option.{none-some, slice_get-get_or, slice_get_within}
use Rattle.kr_order.specs.declared.ids.ServerId.{ServerId}
use Rattle.kr_order.specs.declared.view.View.{View}
use Rattle.kr_protocol.proofs.NameLemmas.{same_server}
use Rattle.kr_protocol.proofs.NeighbourLemmas.{member_is_named, member_or_joiner}
use Rattle.kr_world.proofs.chain.ViewLemmas.{in_first_view}
use Rattle.kr_world.specs.World.{World, is_stopped}
use Rattle.kr_calm.proofs.MemberLemmas.{IsAt}
use Rattle.kr_calm.proofs.ReachedLemmas.{InCalm}

-- so far each server that runs is named
named_next : (stopped : ServerId → Bool) (view : View) (made : ℕ) (next : View) (now : ℕ) → IsNext stopped view made next now
    → ((id : ServerId) → 1 ≤ id.0 → id.0 ≤ made → stopped id ≡ false → names view id ≡ true) → (id : ServerId) → 1 ≤ id.0 → id.0 ≤ now → stopped id ≡ false → names next id ≡ true
named_next stopped view made next now (is_without gone stops named left) before id low high runs =
    named_still view gone id (λ same. false≢true (sym runs ∙ ap stopped (sym (same_server gone id same)) ∙ stops)) (before id low high runs)
named_next stopped view made next now (is_joined alone) before id low high runs = by_place (cases_lt made id.0)
  where
    joined : ServerId
    joined = record { 0 = made + 1 }

    either : (a b : Bool) → b ≡ true → (a || b) ≡ true
    either true b is = refl
    either false b is = is

    first : (a b : Bool) → a ≡ true → (a || b) ≡ true
    first a b is = ap (λ x. x || b) is

    no_joiner : is_joiner view.joiner id ≡ false
    no_joiner = ap (λ j. is_joiner j id) alone

    only : (a b : Bool) → b ≡ false → (a || b) ≡ true → a ≡ true
    only true b none is = refl
    only false b none is = absurd (false≢true (sym none ∙ is))

    by_place : (made < id.0) ⊎ (id.0 ≤ made) → names (with_joiner view joined) id ≡ true
    by_place (inl new) = either (in_chain view id) (eqb (made + 1) id.0) (eq-eqb (made + 1) id.0 (omega arith))
    by_place (inr old) = first (in_chain view id) (eqb (made + 1) id.0) (only (in_chain view id) (is_joiner view.joiner id) no_joiner (before id low old runs))
named_next stopped view made next now (is_promoted joiner joins) before id low high runs = promoted_names view joiner id joins ∙ before id low high runs

first_named : (servers : ℕ) → 1 ≤ servers → (id : ServerId) → 1 ≤ id.0 → id.0 ≤ servers → names (first_view servers) id ≡ true
first_named servers some id low high =
    let same : id.0 - 1 + 1 ≡ id.0 = omega arith in
    let its : ServerId = record { 0 = id.0 - 1 + 1 } in
    member_is_named (first_view servers) id (subst (λ n. in_chain (first_view servers) (record { 0 = n }) ≡ true) same (in_first_view servers (id.0 - 1) (omega arith)))

pub all_named : (stopped : ServerId → Bool) (manager : Manager) → Evolves stopped manager → (id : ServerId) → 1 ≤ id.0 → id.0 ≤ manager.made → stopped id ≡ false → names manager.current id ≡ true
all_named stopped manager (begins servers some) id low high runs = first_named servers some id low high
all_named stopped manager (goes_on before next now evolves step) id low high runs =
    named_next stopped before.current before.made next now step (all_named stopped before evolves) id low high runs

-- so it stands in the chain
pub place_of : (test : ServerId → Bool) (ids : List ServerId) → is_some (position test ids) ≡ true → (i : ℕ) × (id : ServerId) × (slice_get ids i ≡ Some id) × (test id ≡ true)
place_of test ids some = by_found (position test ids) refl some
  where
    none : ServerId
    none = record { 0 = 0 }

    by_found : (found : Option ℕ) → position test ids ≡ found → is_some found ≡ true → (i : ℕ) × (id : ServerId) × (slice_get ids i ≡ Some id) × (test id ≡ true)
    by_found None is there = absurd (false≢true there)
    by_found (Some i) is there =
        let known = position-Some test ids i none is in
        (i, get_or ids i none, slice_get-get_or ids i none known.0, known.1)

pub live_place : (view : View) (world : World) → InCalm view world → (i : ℕ) (server : Server) → slice_get world.servers i ≡ Some server → is_stopped world server.id ≡ false → (j : ℕ) × (IsAt view j server.id)
live_place view world calm i server at runs =
    let sound = calm.reached.sound in
    let number = (sound.servers i server at).id in
    let within = slice_get_within world.servers i server at in
    let made = sound.made in
    let named : names view server.id ≡ true = subst (λ v. names v server.id ≡ true) calm.current (all_named (is_stopped world) world.manager sound.evolves server.id (omega arith) (omega arith) runs) in
    let place = place_of (λ member. eqb member.0 server.id.0) view.chain (in_it named) in
    (place.0, place.2 ∙ ap (λ s. Some s) (same_server place.1 server.id (eqb-true place.1.0 server.id.0 place.3)))
  where
    in_it : names view server.id ≡ true → in_chain view server.id ≡ true
    in_it named = by_case (member_or_joiner view server.id named)
      where
        by_case : (in_chain view server.id ≡ true) ⊎ ((in_chain view server.id ≡ false) × (view.joiner ≡ Some server.id)) → in_chain view server.id ≡ true
        by_case (inl member) = member
        by_case (inr both) = absurd (none-some server.id (sym calm.alone ∙ both.1))
