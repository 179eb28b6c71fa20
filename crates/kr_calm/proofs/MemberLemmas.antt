-- The members of the chain of a view without a joiner, and their servers in the worlds of its rounds.
use Rattle.kr_protocol.specs.Server.{Server, newcomer, next, prev, viewed, is_first, is_at_tail, is_member, view_number, may_adopt}
use Rattle.kr_order.specs.View.{in_chain, index_in, next_of, next_at, or_joiner, prev_of, prev_at, is_head, is_tail, names}
use Rattle.std.proofs.Common.{ap, arith, false, length, ltb, refl, subst, suc, sym, true, ℕ, ◌&&◌, ◌+◌, ◌∙◌, ◌≡◌, ◌≤◌}
use Rattle.std.specs.Prelude.{None, Option, Some, is_none, slice_get}
use Rattle.std.proofs.lemmas.Bool.{and_parts, ltb-true}
use Rattle.std.proofs.lemmas.Option.{same_Some, slice_get_past}
use Rattle.kr_order.specs.declared.ids.ServerId.{ServerId}
use Rattle.kr_order.specs.declared.view.View.{View}
use Rattle.kr_protocol.proofs.NeighbourLemmas.{in_it, index_at, member_is_named}
use Rattle.kr_protocol.proofs.TimelineLemmas.{IsListed, is_no_newer, listed_current, made_by, rises}
use Rattle.kr_protocol.specs.Evolves.{IsRising}
use Rattle.kr_world.proofs.chain.ChainLemmas.{IsThere, chain_of, named_most, there_of}
use Rattle.kr_world.specs.World.{World, is_stopped, server_at}
use Rattle.kr_calm.proofs.ReachedLemmas.{InCalm}

-- the member at an index of the chain
abbrev pub IsAt : View → ℕ → ServerId → Type 0
IsAt view i id = slice_get view.chain i ≡ Some id

-- the view is of servers that rise along the chain
pub record IsRaised (view : View) : Type 0 where
  pub made : ℕ
  pub rising : IsRising view made

pub raised : (view : View) (world : World) → InCalm view world → IsRaised view
raised view world calm =
    let stopped = is_stopped world in
    let manager = world.manager in
    let evolves = calm.reached.sound.evolves in
    let its : IsRaised manager.current = record { made = made_by stopped manager evolves manager.current; rising = rises stopped manager evolves manager.current (listed_current stopped manager evolves) } in
    subst IsRaised calm.current its

pub view_listed : (view : View) (world : World) → InCalm view world → IsListed world.manager view
view_listed view world calm =
    subst (IsListed world.manager) calm.current (listed_current (is_stopped world) world.manager calm.reached.sound.evolves)

pub at_member : (view : View) → IsRaised view → (i : ℕ) (id : ServerId) → IsAt view i id → in_chain view id ≡ true
at_member view raised i id at = in_it view raised.made raised.rising i id at

pub at_runs : (view : View) (world : World) → InCalm view world → (i : ℕ) (id : ServerId) → IsAt view i id → is_stopped world id ≡ false
at_runs view world calm i id at = calm.runs id (at_member view (raised view world calm) i id at)

-- its server is there
pub member_there : (view : View) (world : World) → InCalm view world → (i : ℕ) (id : ServerId) → IsAt view i id → IsThere world.servers id
member_there view world calm i id at =
    let sound = calm.reached.sound in
    let named = member_is_named view id (at_member view (raised view world calm) i id at) in
    there_of (is_stopped world) world.manager world.servers (chain_of world sound) view id (newcomer id) (view_listed view world calm) named

pub member_low : (view : View) (world : World) → InCalm view world → (i : ℕ) (id : ServerId) → IsAt view i id → (1 ≤ id.0) × (id.0 ≤ length world.servers)
member_low view world calm i id at =
    let sound = calm.reached.sound in
    let named = member_is_named view id (at_member view (raised view world calm) i id at) in
    named_most (is_stopped world) world.manager world.servers (chain_of world sound) view id (view_listed view world calm) named

-- the server that stands at a member's number has it
pub member_is : (view : View) (world : World) → InCalm view world → (i : ℕ) (id : ServerId) → IsAt view i id → (server : Server) → server_at world id ≡ Some server → server.id ≡ id
member_is view world calm i id at server there =
    let its = member_there view world calm i id at in
    ap (λ (s : Server). s.id) (same_Some server its.server (sym there ∙ its.at)) ∙ its.its

-- by the view
module _ (view : View) (its : IsRaised view) (alone : view.joiner ≡ None) (i : ℕ) (id : ServerId) (at : IsAt view i id) (server : Server) (own : server.id ≡ id) (adopted : server.view ≡ Some view) where
  index : index_in view id ≡ Some i
  index = index_at view its.made its.rising i id at

  by_view : {X : Type 0} (none : X) (says : View → ServerId → X) → viewed none says server.view server.id ≡ says view id
  by_view none says = ap (λ v. viewed none says v server.id) adopted ∙ ap (says view) own

  pub next_there : next server ≡ slice_get view.chain (i + 1)
  next_there = by_view None next_of ∙ ap (next_at view) index ∙ ap (or_joiner (slice_get view.chain (i + 1))) alone ∙ nobody (slice_get view.chain (i + 1))
    where
      nobody : (found : Option ServerId) → or_joiner found None ≡ found
      nobody None = refl
      nobody (Some member) = refl

  pub member_so : is_member server ≡ true
  member_so = by_view false in_chain ∙ at_member view its i id at

  pub tail_so : length view.chain ≡ i + 1 → is_at_tail server ≡ true
  tail_so last =
      let none : next_of view id ≡ None = ap (next_at view) index ∙ ap (λ o. or_joiner o view.joiner) (slice_get_past view.chain (i + 1) (omega arith)) ∙ alone in
      by_view false is_tail ∙ ap (λ b. b && is_none (next_of view id)) (at_member view its i id at) ∙ ap is_none none

  pub prev_none : i ≡ 0 → prev server ≡ None
  prev_none first = by_view None prev_of ∙ ap (prev_at view id) index ∙ ap (λ k. prev_at view id (Some k)) first

  pub first_so : i ≡ 0 → is_first server ≡ true
  first_so first =
      let none : prev_of view id ≡ None = ap (prev_at view id) index ∙ ap (λ k. prev_at view id (Some k)) first in
      by_view false is_head ∙ ap (λ b. b && is_none (prev_of view id)) (at_member view its i id at) ∙ ap is_none none

  pub prev_there : (j : ℕ) → i ≡ suc j → prev server ≡ slice_get view.chain j
  prev_there j behind = by_view None prev_of ∙ ap (prev_at view id) index ∙ ap (λ k. prev_at view id (Some k)) behind

-- who has adopted the view adopts no other of the manager's
pub adopts_no_other : (view other : View) (world : World) (server : Server) → InCalm view world → server.view ≡ Some view → IsListed world.manager other → may_adopt server other ≡ true → ⊥
adopts_no_other view other world server calm adopted listed may =
    let newer = ltb-true (view_number server.view) other.number (and_parts (ltb (view_number server.view) other.number) (names other server.id) may).0 in
    let no_newer = (is_no_newer (is_stopped world) world.manager calm.reached.sound.evolves other listed).1 in
    omega (arith, ap view_number adopted, ap (λ (v : View). v.number) calm.current)
