-- A server stops: the world stays sound.
use Rattle.std.proofs.Common.{◌≡◌, ◌≢◌, ◌⊎◌, ◌-◌, Bool, true, false, cond, ◌&&◌, ◌||◌, eqb, List, [], ◌∷◌, refl, sym, ap, ◌∙◌, arith, inl, inr}
use Rattle.std.specs.Prelude.{Option, None, Some}
use Rattle.std.proofs.lemmas.Bool.{eq-eqb, false≢true}
use Rattle.std.proofs.lemmas.List.{length-set}
use Rattle.std.proofs.lemmas.Option.{none-some}
use Rattle.kr_order.specs.declared.ids.ServerId.{ServerId}
use Rattle.kr_order.specs.View.{in_chain, last_member}
use Rattle.kr_protocol.specs.Manager.{members_but}
use Rattle.kr_protocol.specs.Server.{Server}
use Rattle.kr_protocol.proofs.NameLemmas.{member, in_chain-member, same_server}
use Rattle.kr_protocol.proofs.TimelineLemmas.{listed_current, rises, evolves_more}
use Rattle.kr_protocol.proofs.NeighbourLemmas.{member_is_named}
use Rattle.kr_world.specs.World.{World, server_at, is_stopped}
use Rattle.kr_world.specs.Step.{have_stopped, is_last_running, stop_refusal, stops}
use Rattle.kr_world.specs.declared.refusal.Refusal.TheVariants.{NoSuchServer, Stopped, LastServer}
use Rattle.kr_world.specs.Sound.{IsSound, SomeMemberRuns}
use Rattle.kr_world.proofs.steps.StepLemmas.{passed}
use Rattle.kr_world.proofs.steps.MarkLemmas.{still_marked, other_mark}
use Rattle.kr_world.proofs.manager.NextViewLemmas.{among_others}

-- of servers that have not all stopped one has not
runs_among : (world : World) (ids : List ServerId) → have_stopped world ids ≡ false → (id : ServerId) × (member ids id ≡ true) × (is_stopped world id ≡ false)
runs_among world [] none = absurd (false≢true (sym none))
runs_among world (id ∷ ids) some = by_test (is_stopped world id) refl some (runs_among world ids)
  where
    itself : eqb id.0 id.0 ≡ true
    itself = eq-eqb id.0 id.0 refl

    by_test : (test : Bool) → is_stopped world id ≡ test → (test && have_stopped world ids) ≡ false
        → (have_stopped world ids ≡ false → (id' : ServerId) × (member ids id' ≡ true) × (is_stopped world id' ≡ false))
        → (id' : ServerId) × (member (id ∷ ids) id' ≡ true) × (is_stopped world id' ≡ false)
    by_test false is rest more = (id, ap (λ b. b || member ids id) itself, is)
    by_test true is rest more =
        let found = more rest in (found.0, or_true (eqb id.0 found.0.0) (member ids found.0) found.1, found.2)
      where
        or_true : (a b : Bool) → b ≡ true → (a || b) ≡ true
        or_true true b is = refl
        or_true false b is = is

-- a server that is not the last that runs leaves one that does
served_without : (world : World) (id : ServerId) → SomeMemberRuns (is_stopped world) world.manager.current → is_last_running world id ≡ false
    → (other : ServerId) × (id.0 ≢ other.0) × (in_chain world.manager.current other ≡ true) × (is_stopped world other ≡ false)
served_without world id served not_last = by_member (in_chain world.manager.current id) refl not_last
  where
    chain : List ServerId
    chain = world.manager.current.chain

    by_member : (test : Bool) → in_chain world.manager.current id ≡ test → (test && have_stopped world (members_but chain id)) ≡ false
        → (other : ServerId) × (id.0 ≢ other.0) × (in_chain world.manager.current other ≡ true) × (is_stopped world other ≡ false)
    by_member true is rest =
        let found = runs_among world (members_but chain id) rest in
        let both = among_others chain id found.0 found.1 in
        (found.0, both.0, in_chain-member world.manager.current found.0 ∙ both.1, found.2)
    by_member false is rest =
        (served.member, (λ same. false≢true (sym is ∙ ap (in_chain world.manager.current) (same_server id served.member same) ∙ served.in_it)), served.in_it, served.runs)

-- a stop that is not refused is of a server that is there, and not the last that runs
stop_sound_of : (world : World) (id : ServerId) (server : Server) → server_at world id ≡ Some server → is_last_running world server.id ≡ false
    → IsSound world → IsSound (stops world id).after
stop_sound_of world id server at not_last sound =
    let number = (sound.servers (id.0 - 1) server at).id in
    let left = served_without world server.id sound.served not_last in
    let listed = listed_current (is_stopped world) world.manager sound.evolves in
    let rising = rises (is_stopped world) world.manager sound.evolves world.manager.current listed in
    let low = (rising.most left.0 (member_is_named world.manager.current left.0 left.2)).0 in
    let different = left.1 in
    let runs : is_stopped (stops world id).after left.0 ≡ false =
    other_mark world.stopped id.0 left.0.0 (λ same. different (omega arith)) ∙ left.3 in
    record {
      evolves = evolves_more (is_stopped world) (is_stopped (stops world id).after) world.manager (λ other is. still_marked world.stopped id.0 other.0 is) sound.evolves;
      made = sound.made;
      few = sound.few;
      served = record { member = left.0; in_it = left.2; runs = runs };
      servers = sound.servers;
      last_holds = sound.last_holds;
      old_tails = λ k view tail server' listed none last there. by_case tail (sound.old_tails k view tail server' listed none last there);
      need_covers = sound.need_covers;
      packets = sound.packets;
      calls = sound.calls;
      bag = sound.bag;
      stopped = length-set world.stopped (id.0 - 1) true ∙ sound.stopped;
      lost = sound.lost;
      delivered = sound.delivered;
    }
  where
    by_case : {Newer : Type 0} (tail : ServerId) → (last_member world.manager.current ≡ Some tail) ⊎ ((is_stopped world tail ≡ true) ⊎ Newer)
        → (last_member world.manager.current ≡ Some tail) ⊎ ((is_stopped (stops world id).after tail ≡ true) ⊎ Newer)
    by_case tail (inl last) = inl last
    by_case tail (inr (inl stopped)) = inr (inl (still_marked world.stopped id.0 tail.0 stopped))
    by_case tail (inr (inr newer)) = inr (inr newer)

-- a stop keeps the world sound
pub stop_sound : (world : World) (id : ServerId) (found : Option Server) → server_at world id ≡ found → stop_refusal world id found ≡ None
    → IsSound world → IsSound (stops world id).after
stop_sound world id None at none sound = absurd (none-some NoSuchServer (sym none))
stop_sound world id (Some server) at none sound =
    let rest = cond (is_last_running world server.id) (Some LastServer) None in
    let first = passed Stopped (is_stopped world id) rest none in
    stop_sound_of world id server at (passed LastServer (is_last_running world server.id) None first.1).0 sound
