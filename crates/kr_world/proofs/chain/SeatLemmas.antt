-- A server of a sound world that has not stopped, and who stands before and after it.
use Rattle.std.proofs.Common.{◌≡◌, ◌⊎◌, ℕ, ◌-◌, ◌<◌, ◌≤◌, Bool, true, false, cond, ◌&&◌, length, refl, sym, ap, ◌∙◌, subst, arith, inl, inr}
use Rattle.std.specs.Prelude.{Option, None, Some, is_none, slice_get, slice_index_or}
use Rattle.std.proofs.lemmas.Bool.{and_parts, false≢true}
use Rattle.std.proofs.lemmas.Option.{none-some, same_Some, slice_get_within}
use Rattle.kr_order.specs.declared.ids.ServerId.{ServerId}
use Rattle.kr_order.specs.declared.view.View.{View}
use Rattle.kr_order.specs.Prefix.{IsPrefix}
use Rattle.kr_order.specs.View.{in_chain, last_member, next_of, prev_of, is_tail, is_head}
use Rattle.kr_protocol.specs.Manager.{views_of}
use Rattle.kr_protocol.specs.Server.{Server, viewed, is_member, is_first, is_at_tail, is_server, prev, joiner_behind, behind, view_number}
use Rattle.kr_protocol.proofs.TimelineLemmas.{IsListed, made_by, rises, listed_current}
use Rattle.kr_protocol.proofs.NeighbourLemmas.{member_is_named, last_is, tail_last, tail_alone}
use Rattle.kr_world.specs.World.{World, server_at, is_stopped}
use Rattle.kr_world.specs.Sound.{IsSound, IsSoundServer}
use Rattle.kr_world.proofs.chain.ChainLemmas.{same_server, chain_of, live_member, member_holds}

-- a server at its number in a sound world, which has not stopped
pub record IsSeated (world : World) (id : ServerId) (server : Server) : Type 0 where
  pub at : server_at world id ≡ Some server
  pub sound : IsSound world
  pub runs : is_stopped world server.id ≡ false

pub own_of :
    (world : World) (id : ServerId) (server : Server)
    → IsSeated world id server
    → IsSoundServer (views_of world.manager) world.servers world.history (length world.bag) (id.0 - 1) server
own_of world id server seat = seat.sound.servers (id.0 - 1) server seat.at

-- a server has stopped by the number at which it was looked up
pub mark_of :
    (world : World) (id : ServerId) (server : Server)
    → server_at world id ≡ Some server
    → IsSound world
    → is_stopped world server.id ≡ is_stopped world id
mark_of world id server at sound =
    let number = (sound.servers (id.0 - 1) server at).id in
    ap (λ k. slice_index_or world.stopped k false) (omega arith)

pub seated :
    (world : World) (id : ServerId) (server : Server)
    → server_at world id ≡ Some server
    → is_stopped world id ≡ false
    → IsSound world
    → IsSeated world id server
seated world id server at runs sound = record { at = at; sound = sound; runs = mark_of world id server at sound ∙ runs }

pub seat_within :
    (world : World) (id : ServerId) (server : Server)
    → IsSeated world id server
    → id.0 - 1 < length world.servers
seat_within world id server seat = slice_get_within world.servers (id.0 - 1) server seat.at

-- the history stands in its log where it is a member
pub seat_holds :
    (world : World) (id : ServerId) (server : Server)
    → IsSeated world id server
    → is_member server ≡ true
    → IsPrefix world.history server.log
seat_holds world id server seat member =
    member_holds world seat.sound (id.0 - 1) server seat.at
    (live_member (is_stopped world) world.manager world.servers (chain_of world seat.sound) (id.0 - 1) server seat.at seat.runs member)

-- the tail is a member, and so is the first
pub tail_member : (server : Server) → is_at_tail server ≡ true → is_member server ≡ true
tail_member server tail = by_view server.view tail
  where
    by_view : (view : Option View) → viewed false is_tail view server.id ≡ true → viewed false in_chain view server.id ≡ true
    by_view None is = is
    by_view (Some view) is = (and_parts (in_chain view server.id) (is_none (next_of view server.id)) is).0

pub first_member : (server : Server) → is_first server ≡ true → is_member server ≡ true
first_member server first = by_view server.view first
  where
    by_view : (view : Option View) → viewed false is_head view server.id ≡ true → viewed false in_chain view server.id ≡ true
    by_view None is = is
    by_view (Some view) is = (and_parts (in_chain view server.id) (is_none (prev_of view server.id)) is).0

-- the tail by a view that is no older than its own is the last member of the current view
pub tail_is_last :
    (world : World) (id : ServerId) (server : Server) (view : View)
    → IsSeated world id server
    → IsListed world.manager view
    → view_number server.view ≤ view.number
    → is_tail view server.id ≡ true
    → last_member world.manager.current ≡ Some server.id
tail_is_last world id server view seat listed le tail =
    let sound = seat.sound in
    let its = tail_last view (made_by (is_stopped world) world.manager sound.evolves view) (rises (is_stopped world) world.manager sound.evolves view listed) server.id tail in
    let number = (own_of world id server seat).id in
    let there : server_at world server.id ≡ Some server = subst (λ n. slice_get world.servers n ≡ Some server) (omega arith) seat.at in
    by_case (sound.old_tails (view.number - 1) view server.id server listed its.1 its.0 there)
  where
    by_case :
        (last_member world.manager.current ≡ Some server.id) ⊎ ((is_stopped world server.id ≡ true) ⊎ (view.number < view_number server.view))
        → last_member world.manager.current ≡ Some server.id
    by_case (inl last) = last
    by_case (inr (inl stopped)) = absurd (false≢true (sym seat.runs ∙ stopped))
    by_case (inr (inr newer)) = absurd (omega arith)

-- who stands at a number that is not 0 has it
pub sender_is :
    (world : World) (from : ServerId) (sender : Server)
    → IsSound world
    → server_at world from ≡ Some sender
    → 1 ≤ from.0
    → sender.id ≡ from
sender_is world from sender sound at low =
    let number = (sound.servers (from.0 - 1) sender at).id in same_server sender.id from (omega arith)

-- whoever stands before the server is that one
pub one_before :
    (world : World) (server : Server) (from : ServerId) (sender : Server)
    → IsSound world
    → server_at world from ≡ Some sender
    → 1 ≤ from.0
    → prev server ≡ Some from
    → (j : ℕ) (before : Server)
    → slice_get world.servers j ≡ Some before
    → prev server ≡ Some before.id
    → sender ≡ before
one_before world server from sender sound there low is j before at is' =
    let number = (sound.servers j before at).id in
    let same : from ≡ before.id = same_Some from before.id (sym is ∙ is') in
    same_Some sender before (sym there ∙ subst (λ k. slice_get world.servers k ≡ Some before) (omega (arith, ap (λ (d : ServerId). d.0) same)) at)

not_last :
    (member : Bool) (found : Option ServerId) (from : ServerId)
    → found ≡ Some from
    → (member && is_none found) ≡ false
not_last member None from is = absurd (none-some from is)
not_last true (Some other) from is = refl
not_last false (Some other) from is = refl

-- who has a next server is not the tail
pub next_not_tail :
    (view : Option View) (id from : ServerId)
    → viewed None next_of view id ≡ Some from
    → viewed false is_tail view id ≡ false
next_not_tail None id from is = refl
next_not_tail (Some view) id from is = not_last (in_chain view id) (next_of view id) from is

-- nor is who has a joiner behind it
pub behind_not_tail : (server : Server) (joiner : ServerId) → behind server ≡ Some joiner → is_at_tail server ≡ false
behind_not_tail server joiner is = by_view server.view is
  where
    by_last : (view : View) (test : Bool) → is_server (last_member view) server.id ≡ test → cond test view.joiner None ≡ Some joiner → is_tail view server.id ≡ false
    by_last view false same joins = absurd (none-some joiner joins)
    by_last view true same joins = by_tail (is_tail view server.id) refl
      where
        by_tail : (tail : Bool) → is_tail view server.id ≡ tail → is_tail view server.id ≡ false
        by_tail false is = is
        by_tail true is = absurd (none-some joiner (sym (tail_alone view server.id is) ∙ joins))

    by_view : (view : Option View) → viewed None joiner_behind view server.id ≡ Some joiner → viewed false is_tail view server.id ≡ false
    by_view None is = refl
    by_view (Some view) is = by_last view (is_server (last_member view) server.id) refl is

-- the last member has a number
pub last_low : (world : World) → IsSound world → (last : ServerId) → last_member world.manager.current ≡ Some last → 1 ≤ last.0
last_low world sound last is =
    let listed = listed_current (is_stopped world) world.manager sound.evolves in
    let rising = rises (is_stopped world) world.manager sound.evolves world.manager.current listed in
    let its = last_is world.manager.current (made_by (is_stopped world) world.manager sound.evolves world.manager.current) rising last is in
    (rising.most last (member_is_named world.manager.current last its.member)).0
