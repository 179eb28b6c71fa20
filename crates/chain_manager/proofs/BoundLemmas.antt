-- How many views there may be: the first view and a view without a server keep the bound.
use Rattle.std.proofs.Common.{◌≡◌, ℕ, ◌+◌, ◌||◌, ◌≤◌, suc, Bool, true, false, cond, not, eqb, List, [], ◌∷◌, ◌++◌, length, map, sym, ap, ◌∙◌, arith, inl, inr}
use Rattle.std.specs.Prelude.{Option, None, Some}
use Rattle.std.specs.Option.{option_to_list}
use Rattle.std.proofs.lemmas.Bool.{false≢true}
use Rattle.std.proofs.lemmas.List.{length-map, append-nil, map-append}
use Rattle.kr_order.specs.declared.ids.ServerId.{ServerId}
use Rattle.kr_order.specs.declared.view.View.{View}
use Rattle.kr_order.specs.Numbers.{numbers_to}
use Rattle.kr_order.specs.View.{is_joiner, first_view, names}
use Rattle.kr_protocol.specs.Manager.{members_but, joiner_but, without, view_packet, announces}
use Rattle.chain_manager.specs.Bounds.{joiners, IsBounded}
use Rattle.kr_protocol.proofs.ListLemmas.{length-numbers_to}
use Rattle.kr_protocol.proofs.NameLemmas.{member, named_cases, fewer}

pub first_bounded : (servers : ℕ) → servers ≤ 64 → IsBounded (first_view servers) servers
first_bounded servers le =
    let long : length (first_view servers).chain ≡ servers = length-map (numbers_to servers) (λ n. record { 0 = n }) ∙ length-numbers_to servers in
    record { views = omega (arith, long); servers = le }

-- fewer are left without one of them
one_fewer : (chain : List ServerId) (id : ServerId) → member chain id ≡ true → length (members_but chain id) + 1 ≤ length chain
one_fewer [] id is = absurd (false≢true is)
one_fewer (one ∷ more) id is = by_test (eqb one.0 id.0) is (one_fewer more id)
  where
    by_test : (test : Bool) → (test || member more id) ≡ true
        → (member more id ≡ true → length (members_but more id) + 1 ≤ length more)
        → length (cond (not test) (one ∷ members_but more id) (members_but more id)) + 1 ≤ suc (length more)
    by_test true is rest = omega (arith, fewer more id)
    by_test false is rest = omega (arith, rest is)

no_more_join : (joiner : Option ServerId) (id : ServerId) → joiners (joiner_but joiner id) ≤ joiners joiner
no_more_join None id = omega arith
no_more_join (Some joiner) id = by_test (eqb joiner.0 id.0)
  where
    by_test : (test : Bool) → joiners (cond test None (Some joiner)) ≤ 1
    by_test true = omega arith
    by_test false = omega arith

one_joins_not : (joiner : Option ServerId) (id : ServerId) → is_joiner joiner id ≡ true → joiners (joiner_but joiner id) + 1 ≤ joiners joiner
one_joins_not None id is = absurd (false≢true is)
one_joins_not (Some joiner) id is = by_test (eqb joiner.0 id.0) is
  where
    by_test : (test : Bool) → test ≡ true → joiners (cond test None (Some joiner)) + 1 ≤ 1
    by_test true is = omega arith
    by_test false is = absurd (false≢true is)

pub without_bounded : (view : View) (made : ℕ) (id : ServerId) → names view id ≡ true → IsBounded view made → IsBounded (without view id) made
without_bounded view made id named bounded =
    let views = bounded.views in
    elim (named_cases view id named) [
      | inl in_it ↦
          record {
            views = omega (arith, one_fewer view.chain id in_it, no_more_join view.joiner id);
            servers = bounded.servers;
          }
      | inr joins ↦
          record {
            views = omega (arith, fewer view.chain id, one_joins_not view.joiner id joins);
            servers = bounded.servers;
          }
    ]

-- what is told of a view with a joiner, and of one without
pub announced : (view : View) (joiner : ServerId) → view.joiner ≡ Some joiner → map (view_packet view) view.chain ++ view_packet view joiner ∷ [] ≡ announces view
announced view joiner is =
    sym (ap (λ j. map (view_packet view) (view.chain ++ option_to_list j)) is ∙ map-append (view_packet view) view.chain (joiner ∷ []))

pub announced_alone : (view : View) → view.joiner ≡ None → map (view_packet view) view.chain ≡ announces view
announced_alone view is =
    sym (ap (λ j. map (view_packet view) (view.chain ++ option_to_list j)) is ∙ ap (map (view_packet view)) (append-nil view.chain))
