-- After one round each member has adopted the manager's view.
use Rattle.kr_protocol.specs.Server.{Server, view_number, may_adopt, adopts, server_takes}
use Rattle.kr_protocol.specs.Reaction.{ignored}
use Rattle.kr_order.specs.View.{names}
use Rattle.kr_protocol.specs.Manager.{views_of, named_by, announces, view_packet}
use Rattle.std.proofs.Common.{Bool, List, ap, arith, cond, false, inl, inr, ltb, refl, subst, sym, true, ℕ, ◌&&◌, ◌++◌, ◌-◌, ◌∙◌, ◌∷◌, ◌≡◌, ◌≢◌, ◌≤◌}
use Rattle.std.specs.Option.{option_to_list}
use Rattle.std.specs.Prelude.{None, Some, slice_get}
use Rattle.std.proofs.lemmas.Bool.{false≢true, ltb-false}
use Rattle.std.proofs.lemmas.Option.{same_Some}
use Rattle.kr_order.specs.declared.ids.ServerId.{ServerId}
use Rattle.kr_order.specs.declared.message.Packet.{Packet}
use Rattle.kr_order.specs.declared.view.View.{View}
use Rattle.kr_protocol.proofs.NeighbourLemmas.{member_is_named}
use Rattle.kr_protocol.proofs.TimelineLemmas.{IsListed, is_no_newer}
use Rattle.script_lang.specs.declared.script.Event.TheVariants.{Tick}
use Rattle.kr_world.proofs.bounds.AdoptLemmas.{adoption_of}
use Rattle.kr_world.specs.Round.{learn_events, learnt_retry_events, round_events, tick_events}
use Rattle.kr_world.specs.Sound.{IsSound, IsViewed}
use Rattle.kr_world.specs.Step.{refusal_of, step}
use Rattle.kr_world.specs.World.{World, is_stopped}
use Rattle.kr_world.specs.declared.refusal.Refusal.TheVariants.{BagFull}
use Rattle.kr_calm.proofs.GoLemmas.{Goes, Has}
use Rattle.kr_calm.proofs.InLemmas.{IsIn, in_at, in_left, in_map, in_right}
use Rattle.kr_calm.proofs.MemberLemmas.{IsAt, at_member, at_runs, member_there, raised, view_listed}
use Rattle.kr_calm.proofs.ReachedLemmas.{InCalm, calm_step}
use Rattle.kr_calm.proofs.RoomLemmas.{next}
use Rattle.kr_calm.proofs.StayLemmas.{has_stable, nothing_stable, round_lasts}
use Rattle.kr_calm.proofs.TakeLemmas.{has_taken, tells_now}
use Rattle.kr_calm.proofs.WayLemmas.{Comes, IsBrought, IsComing, Lasts, calm_lasts, round_brings, sent_under_way}
use Rattle.kr_calm.specs.Calm.{HaveRoom}

-- a server that has adopted the view
abbrev pub HasView : View → Server → Type 0
HasView view server = server.view ≡ Some view

abbrev pub AreViewed : View → World → Type 0
AreViewed view world = (i : ℕ) (id : ServerId) → IsAt view i id → Has world id (HasView view)

view_grows : (view : View) (old new : Server) → Goes view old new → HasView view old → HasView view new
view_grows view old new goes is = goes.viewed is

-- two listed views of one number are one
one_view : (views : List View) (one other : View) → slice_get views (one.number - 1) ≡ Some one → slice_get views (other.number - 1) ≡ Some other → one.number ≡ other.number → one ≡ other
one_view views one other listed listed' same = same_Some one other (sym listed ∙ ap (λ n. slice_get views (n - 1)) same ∙ listed')

-- who does not adopt the manager's view has it
has_it : (view : View) (world : World) (i : ℕ) (server : Server) → InCalm view world → slice_get world.servers i ≡ Some server → names view server.id ≡ true → may_adopt server view ≡ false → server.view ≡ Some view
has_it view world i server calm at named may = by_view (sound.servers i server at).own_view
  where
    sound : IsSound world
    sound = calm.reached.sound

    listed : IsListed world.manager view
    listed = view_listed view world calm

    not_newer : view.number ≤ view_number server.view
    not_newer =
        let same : ltb (view_number server.view) view.number ≡ false = by_tests (ltb (view_number server.view) view.number) (names view server.id) named may in
        ltb-false (view_number server.view) view.number same
      where
        by_tests : (newer named : Bool) → named ≡ true → newer && named ≡ false → newer ≡ false
        by_tests true named is none = absurd (false≢true (sym none ∙ is))
        by_tests false named is none = refl

    by_view : IsViewed (views_of world.manager) server → server.view ≡ Some view
    by_view (inr blank) =
        let low = (is_no_newer (is_stopped world) world.manager sound.evolves view listed).0 in
        absurd (omega (arith, ap view_number blank.none, not_newer))
    by_view (inl own) =
        let le = (is_no_newer (is_stopped world) world.manager sound.evolves own.view own.listed).1 in
        let number : own.view.number ≡ view.number = omega (arith, not_newer, ap view_number own.adopted, ap (λ (v : View). v.number) calm.current) in
        own.adopted ∙ ap (λ v. Some v) (one_view (views_of world.manager) own.view view own.listed listed number)

takes_view : (view : View) (world : World) (i : ℕ) (server : Server) → InCalm view world → slice_get world.servers i ≡ Some server → names view server.id ≡ true → HasView view (server_takes server (view_packet view server.id)).after
takes_view view world i server calm at named = by_test (may_adopt server view) refl
  where
    by_test : (may : Bool) → may_adopt server view ≡ may → HasView view (cond may (adopts server view) (ignored server)).after
    by_test true may =
        let its = calm.reached.sound.servers i server at in
        (adoption_of server view (record { done = its.done; fed = its.fed })).view_is
    by_test false may = has_it view world i server calm at named may

module _ (view : View) (i : ℕ) (id : ServerId) (at : IsAt view i id) where
  abbrev Viewed : World → Type 0
  Viewed world = Has world id (HasView view)

  abbrev IsTold : Packet → World → Type 0
  IsTold packet world = packet ≡ view_packet view id

  told_brings : IsBrought view (InCalm view) (calm_lasts view) Viewed IsTold
  told_brings = record {
    stable = has_stable view (InCalm view) (calm_lasts view) id (HasView view) (view_grows view);
    stays = λ packet world event is inv good. good;
    brings = λ world k packet calm good there is none.
        let its = member_there view world calm i id at in
        let server = its.server in
        let named : names view server.id ≡ true = ap (names view) its.its ∙ member_is_named view id (at_member view (raised view world calm) i id at) in
        let took = takes_view view world (id.0 - 1) server calm its.at named in
        let same : packet ≡ view_packet view server.id = good ∙ ap (view_packet view) (sym its.its) in
        has_taken world k packet id server (HasView view) there none (ap (λ (p : Packet). p.to) good) its.at (subst (λ p. HasView view (server_takes server p).after) (sym same) took);
  }

  pub round_view : (world : World) → HaveRoom world (round_events world) → InCalm view world → Has (next world) id (HasView view)
  round_view world room calm =
      round_brings view (InCalm view) (calm_lasts view) Viewed IsTold told_brings (λ w. Unit {0}) (nothing_stable view (InCalm view) (calm_lasts view)) (Tick None) (λ now calm is room holds. sent now calm room) world room
      (in_right (Tick None) (learn_events world) (Tick None ∷ (tick_events world ++ learnt_retry_events world)) (inl refl)) calm tt
    where
      sent : (now : World) → InCalm view now → refusal_of now (Tick None) ≢ Some BagFull → Comes view (InCalm view) (calm_lasts view) Viewed IsTold (step now (Tick None)).after
      sent now calm room =
          let packets = announces now.manager.current in
          let packet = view_packet view id in
          let is : IsIn packet packets = subst (λ v. IsIn packet (announces v)) (sym calm.current) (in_map (view_packet view) id (named_by view) (in_left id view.chain (option_to_list view.joiner) (in_at id view.chain i at))) in
          let sound = calm.reached.sound in
          let way = sent_under_way now (record now { manager = now.manager }) packets packet refl sound.delivered sound.lost (at_runs view now calm i id at) is in
          inr (subst (λ w. (k : ℕ) × IsComing IsTold w k) (sym (tells_now now room)) (way.k, record { packet = packet; good = refl; under = way.under }))

-- a world in which all have
pub record InView (view : View) (world : World) : Type 0 where
  pub calm : InCalm view world
  pub viewed : AreViewed view world

pub view_lasts : (view : View) → Lasts view (InView view)
view_lasts view = record {
  calm = λ world inv. inv.calm;
  keeps = λ world event is inv. record {
    calm = calm_step view world event is inv.calm;
    viewed = λ i id at. has_stable view (InCalm view) (calm_lasts view) id (HasView view) (view_grows view) world event is inv.calm (inv.viewed i id at);
  };
}

pub first_round : (view : View) (world : World) → HaveRoom world (round_events world) → InCalm view world → InView view (next world)
first_round view world room calm = record {
  calm = round_lasts view (InCalm view) (calm_lasts view) world calm;
  viewed = λ i id at. round_view view i id at world room calm;
}
