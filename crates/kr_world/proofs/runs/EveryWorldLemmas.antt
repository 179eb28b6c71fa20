-- What holds in every world of every run: the facts, that members hold the history, and that one tail runs.
use Rattle.std.proofs.Common.{◌≡◌, ◌-◌, true, false, length, sym, ap, ◌∙◌, subst, arith, inl, inr}
use Rattle.std.specs.Prelude.{Some, slice_get}
use Rattle.std.proofs.lemmas.Bool.{false≢true}
use Rattle.std.proofs.lemmas.List.{length-take-le, take_all}
use Rattle.std.proofs.lemmas.Option.{same_Some}
use Rattle.kr_order.specs.declared.ids.ServerId.{ServerId}
use Rattle.kr_order.specs.View.{in_chain, last_member, is_tail}
use Rattle.kr_order.proofs.PrefixLemmas.{IsPrefix-length, take_front}
use Rattle.kr_protocol.specs.Manager.{views_of}
use Rattle.kr_protocol.specs.Server.{Server, newcomer, viewed, view_number, acknowledged}
use Rattle.kr_protocol.proofs.NeighbourLemmas.{member_is_named}
use Rattle.kr_protocol.proofs.TimelineLemmas.{listed_current}
use Rattle.kr_world.specs.World.{World, server_at, is_stopped}
use Rattle.kr_world.specs.Sound.{IsSound, IsViewed}
use Rattle.kr_world.specs.EveryWorld.{EveryWorldIsSound, FactsHold, MembersHold, MembersHoldTheHistory, IsRunningTail, HasOneTail, OneTailRuns, world_of}
use Rattle.kr_world.proofs.chain.ChainLemmas.{chain_of, there_of, member_holds}
use Rattle.kr_world.proofs.chain.SeatLemmas.{IsSeated, seat_holds, tail_member, tail_is_last}
use Rattle.kr_world.proofs.runs.RunLemmas.{world_reached}

pub every_world_sound : EveryWorldIsSound
every_world_sound script fit i = (world_reached script fit i).sound

pub facts_hold : FactsHold
facts_hold script fit i = (world_reached script fit i).facts

-- a member of a sound world is there, and holds the history
pub members_hold : (world : World) → IsSound world → MembersHold world
members_hold world sound member is =
    let stopped = is_stopped world in
    let newest = listed_current stopped world.manager sound.evolves in
    let its = there_of stopped world.manager world.servers (chain_of world sound) world.manager.current member (newcomer member) newest (member_is_named world.manager.current member is) in
    record {
      server = its.server;
      there = its.at;
      holds = member_holds world sound (member.0 - 1) its.server its.at (ap (in_chain world.manager.current) its.its ∙ is);
    }

pub members_hold_everywhere : MembersHoldTheHistory
members_hold_everywhere script fit i = members_hold (world_of script i) (every_world_sound script fit i)

-- a tail that runs stands at its number
tail_seat : (world : World) → IsSound world → (server : Server) → IsRunningTail world server → IsSeated world server.id server
tail_seat world sound server is =
    let number = (sound.servers is.place server is.there).id in
    record { at = subst (λ k. slice_get world.servers k ≡ Some server) (omega (arith, number)) is.there; sound = sound; runs = is.runs }

-- it is the last member
tail_last : (world : World) → IsSound world → (server : Server) → IsRunningTail world server → last_member world.manager.current ≡ Some server.id
tail_last world sound server is = by_view (sound.servers is.place server is.there).own_view
  where
    by_view : IsViewed (views_of world.manager) server → last_member world.manager.current ≡ Some server.id
    by_view (inr blank) = absurd (false≢true (sym (ap (λ v. viewed false is_tail v server.id) blank.none) ∙ is.tail))
    by_view (inl own) =
        let number = ap view_number own.adopted in
        let its_tail : is_tail own.view server.id ≡ true = sym (ap (λ v. viewed false is_tail v server.id) own.adopted) ∙ is.tail in
        tail_is_last world server.id server own.view (tail_seat world sound server is) own.listed (omega (arith, number)) its_tail

-- and its log is the history
tail_log : (world : World) → IsSound world → (server : Server) → IsRunningTail world server → server.log ≡ world.history
tail_log world sound server is =
    let own = sound.servers is.place server is.there in
    let holds = seat_holds world server.id server (tail_seat world sound server is) (tail_member server is.tail) in
    let few = IsPrefix-length (acknowledged server) world.history own.agreed in
    let all = length-take-le server.done server.log own.done in
    sym (take_all (length world.history) server.log (omega (arith, few, all, own.full is.tail))) ∙ take_front world.history server.log holds

one_tail : (world : World) → IsSound world → HasOneTail world
one_tail world sound =
    record {
      last = tail_last world sound;
      log = tail_log world sound;
      one = λ server other is its.
          let same = same_Some server.id other.id (sym (tail_last world sound server is) ∙ tail_last world sound other its) in
          let there = (tail_seat world sound server is).at in
          let there' = (tail_seat world sound other its).at in
          same_Some server other (sym there ∙ ap (λ (id : ServerId). server_at world id) same ∙ there');
    }

pub one_tail_runs : OneTailRuns
one_tail_runs script fit i = one_tail (world_of script i) (every_world_sound script fit i)
