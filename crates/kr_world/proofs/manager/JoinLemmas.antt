-- A server joins: the world stays sound.
use Rattle.std.proofs.Common.{◌≡◌, ◌⊎◌, ℕ, ◌+◌, ◌-◌, ◌<◌, ◌≤◌, true, false, cond, leb, [], ◌∷◌, ◌++◌, length, refl, sym, ap, ◌∙◌, subst, arith, inl, inr}
use Rattle.std.specs.Prelude.{None, Some, is_some, slice_get}
use Rattle.std.proofs.lemmas.Bool.{eq-eqb, leb-false}
use Rattle.std.proofs.lemmas.List.{length-append}
use Rattle.std.proofs.lemmas.List.Elements.{All-weaker}
use Rattle.std.proofs.lemmas.Option.{none-some, same_Some}
use Rattle.kr_order.specs.declared.ids.ServerId.{ServerId}
use Rattle.kr_order.specs.declared.message.Node as nodes
use Rattle.kr_order.specs.declared.message.Node.TheVariants.{Manager as AtManager, Client as AtClient, Server as AtServer}
use Rattle.kr_order.specs.declared.message.Message.{Message}
use Rattle.kr_order.specs.declared.message.Message.TheVariants.{Append, Ack, NewView, Joined}
use Rattle.kr_order.specs.declared.view.View.{View}
use Rattle.kr_order.specs.Prefix.{IsPrefix}
use Rattle.kr_order.specs.View.{is_joiner, last_member, prev_of, names}
use Rattle.kr_order.proofs.PrefixLemmas.{IsPrefix-nil}
use Rattle.kr_protocol.specs.Manager.{next_server, adds, views_of}
use Rattle.kr_protocol.specs.Evolves.{is_joined, goes_on}
use Rattle.kr_protocol.specs.Server.{Server, viewed, newcomer, prev, view_number}
use Rattle.kr_protocol.proofs.ListLemmas.{slice_get_left, slice_get_front}
use Rattle.kr_protocol.proofs.NameLemmas.{joiner_named}
use Rattle.kr_protocol.proofs.TimelineLemmas.{IsAt, is_before, is_last, at_of, IsListed, made_by, counting, listed_current, rises, evolves_more}
use Rattle.kr_protocol.proofs.NeighbourLemmas.{member_is_named, last_is, prev_before}
use Rattle.kr_world.specs.World.{World, is_stopped}
use Rattle.kr_world.specs.Step.{bag_limit, most_servers, if_full, join_refusal, joins}
use Rattle.kr_world.specs.declared.refusal.Refusal.TheVariants.{JoinerThere, ServersSpent}
use Rattle.kr_world.specs.Sound.{IsSound, IsSoundServer, IsViewed, IsSoundAppend, IsSoundAck, IsSoundJoined, IsSoundPacket, IsSoundMessage, OldTailsKnow, NeedCovers}
use Rattle.kr_world.proofs.steps.StepLemmas.{none_of, passed, has_room}
use Rattle.kr_world.proofs.chain.ChainLemmas.{IsChain, chain_of, named_most, beside_now}
use Rattle.kr_world.proofs.manager.NextViewLemmas.{told_sound, viewed_more, beside_more}
use Rattle.kr_world.proofs.steps.MarkLemmas.{more_marks}

-- a new server has joined, and the manager has not told of it
abbrev pub with_newcomer : World → World
with_newcomer world =
    record world { manager = adds world.manager; servers = world.servers ++ newcomer (next_server world.manager) ∷ []; stopped = world.stopped ++ false ∷ [] }

module _ (world : World) (sound : IsSound world) (none : world.manager.current.joiner ≡ None) (few : world.manager.made < 64) where
  abbrev joiner_id : ServerId
  joiner_id = next_server world.manager

  abbrev blank : Server
  blank = newcomer joiner_id

  abbrev joined : World
  joined = with_newcomer world

  chain_then : IsChain (is_stopped world) world.manager world.servers
  chain_then = chain_of world sound

  still_stopped : (id : ServerId) → is_stopped world id ≡ true → is_stopped joined id ≡ true
  still_stopped id is = more_marks world.stopped id.0 ∙ is

  -- no view before names the new server
  not_named : (view : View) (id : ServerId) → IsListed world.manager view → names view id ≡ true → (1 ≤ id.0) × (id.0 < joiner_id.0)
  not_named view id listed named =
      let most = named_most (is_stopped world) world.manager world.servers chain_then view id listed named in
      let high = most.1 in
      let made = sound.made in
      (most.0, omega arith)

  -- a server that some view named stands where it stood
  stood : (view : View) (id : ServerId) (server : Server) → IsListed world.manager view → names view id ≡ true → slice_get joined.servers (id.0 - 1) ≡ Some server → slice_get world.servers (id.0 - 1) ≡ Some server
  stood view id server listed named there =
      let both = not_named view id listed named in
      let low = both.0 in
      let high = both.1 in
      let made = sound.made in
      slice_get_front world.servers (blank ∷ []) (id.0 - 1) server (omega arith) there

  newest_then : IsListed world.manager world.manager.current
  newest_then = listed_current (is_stopped world) world.manager sound.evolves

  last_named : (last : ServerId) → last_member world.manager.current ≡ Some last → names world.manager.current last ≡ true
  last_named last is =
      let rising = rises (is_stopped world) world.manager sound.evolves world.manager.current newest_then in
      member_is_named world.manager.current last (last_is world.manager.current (made_by (is_stopped world) world.manager sound.evolves world.manager.current) rising last is).member

  -- the servers that there were
  sound_then : (i : ℕ) (server : Server) → slice_get world.servers i ≡ Some server → IsSoundServer (views_of joined.manager) joined.servers joined.history (length joined.bag) i server
  sound_then i server there =
      let own = sound.servers i server there in
      record {
        id = own.id;
        own_view = viewed_more (views_of world.manager) (joined.manager.current ∷ []) server own.own_view;
        done = own.done;
        fed = own.fed;
        below = λ j before at is. by_place j before (at_of world.servers blank j before at) is own.own_view;
        agreed = own.agreed;
        full = own.full;
        waiting = own.waiting;
        entries = own.entries;
      }
    where
      by_place : (j : ℕ) (before : Server) → IsAt world.servers blank j before → prev server ≡ Some before.id → IsViewed (views_of world.manager) server → IsPrefix server.log before.log
      by_place j before (is_before lt at) is own = (sound.servers i server there).below j before at is
      by_place j before (is_last at_end same) is (inr none_yet) = absurd (none-some before.id (sym (ap (λ v. viewed None prev_of v server.id) none_yet.none) ∙ is))
      by_place j before (is_last at_end same) is (inl own) =
          let stands : prev_of own.view server.id ≡ Some before.id = sym (ap (λ v. viewed None prev_of v server.id) own.adopted) ∙ is in
          let rising = rises (is_stopped world) world.manager sound.evolves own.view own.listed in
          let its = prev_before own.view (made_by (is_stopped world) world.manager sound.evolves own.view) rising before.id server.id stands in
          let less = (not_named own.view before.id own.listed (member_is_named own.view before.id its.member)).1 in
          absurd (omega (arith, ap (λ (s : Server). s.id.0) same))

  -- and the new one
  sound_blank : (i : ℕ) → i ≡ length world.servers → IsSoundServer (views_of joined.manager) joined.servers joined.history (length joined.bag) i blank
  sound_blank i at_end =
      let made = sound.made in
      record {
        id = omega arith;
        own_view = inr (record { none = refl; log = refl });
        done = omega arith;
        fed = omega arith;
        below = λ j before at is. absurd (none-some before.id is);
        agreed = IsPrefix-nil world.history;
        full = λ tail. refl;
        waiting = omega arith;
        entries = omega arith;
      }

  servers_then : (i : ℕ) (server : Server) → slice_get joined.servers i ≡ Some server → IsSoundServer (views_of joined.manager) joined.servers joined.history (length joined.bag) i server
  servers_then i server at = by_place (at_of world.servers blank i server at)
    where
      by_place : IsAt world.servers blank i server → IsSoundServer (views_of joined.manager) joined.servers joined.history (length joined.bag) i server
      by_place (is_before lt there) = sound_then i server there
      by_place (is_last at_end same) = subst (IsSoundServer (views_of joined.manager) joined.servers joined.history (length joined.bag) i) same (sound_blank i at_end)

  old_tails_then : OldTailsKnow joined
  old_tails_then k view tail server at alone last there = by_place (at_of (views_of world.manager) joined.manager.current k view at)
    where
      Knows : Type 0
      Knows = (last_member joined.manager.current ≡ Some tail) ⊎ ((is_stopped joined tail ≡ true) ⊎ (view.number < view_number server.view))

      by_case : (last_member world.manager.current ≡ Some tail) ⊎ ((is_stopped world tail ≡ true) ⊎ (view.number < view_number server.view)) → Knows
      by_case (inl is) = inl is
      by_case (inr (inl is)) = inr (inl (still_stopped tail is))
      by_case (inr (inr newer)) = inr (inr newer)

      by_place : IsAt (views_of world.manager) joined.manager.current k view → Knows
      by_place (is_last at_end same) = absurd (none-some joiner_id (sym alone ∙ sym (ap (λ (v : View). v.joiner) same)))
      by_place (is_before lt there') =
          let number = (counting (is_stopped world) world.manager sound.evolves).numbers k view there' in
          let listed_view : IsListed world.manager view = subst (λ n. slice_get (views_of world.manager) n ≡ Some view) (omega arith) there' in
          let rising = rises (is_stopped world) world.manager sound.evolves view listed_view in
          let its = last_is view (made_by (is_stopped world) world.manager sound.evolves view) rising tail last in
          by_case (sound.old_tails k view tail server there' alone last (stood view tail server listed_view (member_is_named view tail its.member) there))

  need_covers_then : NeedCovers joined
  need_covers_then joiner last server is ends there stands =
      let at = stood world.manager.current last server newest_then (last_named last ends) there in
      let own = (sound.servers (last.0 - 1) server at).own_view in
      let beside = beside_now (is_stopped world) world.manager world.servers chain_then server joiner own stands in
      let view = beside.was.heard in
      let named : names view joiner ≡ true = joiner_named view joiner (ap (λ j. is_joiner j joiner) beside.was.joins ∙ eq-eqb joiner.0 joiner.0 refl) in
      let less = (not_named view joiner beside.was.listed named).1 in
      absurd (omega (arith, ap (λ (d : ServerId). d.0) (same_Some joiner_id joiner is)))

  message_then : (from : nodes.Node) (message : Message) → IsSoundMessage (views_of world.manager) world.servers from message → IsSoundMessage (views_of joined.manager) joined.servers from message
  message_then from (Append first entries) said = append_then from said
    where
      append_then : (from : nodes.Node) → IsSoundAppend world.servers from first entries → IsSoundAppend joined.servers from first entries
      append_then AtManager said = said
      append_then (AtClient client) said = said
      append_then (AtServer server) said =
          record { sender = said.sender; from_low = said.from_low; first_low = said.first_low; there = slice_get_left world.servers (blank ∷ []) (server.0 - 1) said.sender said.there; few = said.few; stand = said.stand }
  message_then from (Ack done len) said = ack_then from said
    where
      ack_then : (from : nodes.Node) → IsSoundAck world.servers from done len → IsSoundAck joined.servers from done len
      ack_then AtManager said = said
      ack_then (AtClient client) said = said
      ack_then (AtServer server) said =
          record { sender = said.sender; from_low = said.from_low; there = slice_get_left world.servers (blank ∷ []) (server.0 - 1) said.sender said.there; done_so_far = said.done_so_far; len_so_far = said.len_so_far }
  message_then from (NewView view) said = slice_get_left (views_of world.manager) (joined.manager.current ∷ []) (view.number - 1) view said
  message_then from (Joined joiner) said = joined_then from said
    where
      joined_then : (from : nodes.Node) → IsSoundJoined (views_of world.manager) world.servers from joiner → IsSoundJoined (views_of joined.manager) joined.servers from joiner
      joined_then AtManager said = said
      joined_then (AtClient client) said = said
      joined_then (AtServer server) said =
          let beside = said.beside in
          let named : names beside.heard joiner ≡ true = joiner_named beside.heard joiner (ap (λ j. is_joiner j joiner) beside.joins ∙ eq-eqb joiner.0 joiner.0 refl) in
          record {
            sender = said.sender;
            from_low = said.from_low;
            there = slice_get_left world.servers (blank ∷ []) (server.0 - 1) said.sender said.there;
            beside = beside_more (views_of world.manager) (joined.manager.current ∷ []) said.sender joiner beside;
            covered = λ other there stands. said.covered other (stood beside.heard joiner other beside.listed named there) stands;
          }
  message_then from other said = said

  pub with_newcomer_sound : IsSound joined
  with_newcomer_sound =
      let more = length-append world.servers (blank ∷ []) in
      let marks = length-append world.stopped (false ∷ []) in
      let stopped = sound.stopped in
      let made = sound.made in
      record {
        evolves = goes_on world.manager joined.manager.current (world.manager.made + 1) (evolves_more (is_stopped world) (is_stopped joined) world.manager still_stopped sound.evolves) (is_joined none);
        made = omega (arith, more);
        few = omega (arith, more);
        served = record { member = sound.served.member; in_it = sound.served.in_it; runs = more_marks world.stopped sound.served.member.0 ∙ sound.served.runs };
        servers = servers_then;
        last_holds = λ last server ends there. sound.last_holds last server ends (stood world.manager.current last server newest_then (last_named last ends) there);
        old_tails = old_tails_then;
        need_covers = need_covers_then;
        packets = All-weaker (IsSoundPacket (views_of world.manager) world.servers) (IsSoundPacket (views_of joined.manager) joined.servers) (λ packet said. message_then packet.from packet.message said) world.bag sound.packets;
        calls = sound.calls;
        bag = sound.bag;
        stopped = omega (arith, more, marks);
        lost = sound.lost;
        delivered = sound.delivered;
      }

-- a join that is not refused finds no joiner, fewer servers than may be made, and room in the bag
pub record MayJoin (world : World) : Type 0 where
  pub none : world.manager.current.joiner ≡ None
  pub few : world.manager.made < 64
  pub room : length world.bag < bag_limit

pub may_join : (world : World) → join_refusal world ≡ None → MayJoin world
may_join world none =
    let rest = cond (leb most_servers world.manager.made) (Some ServersSpent) (if_full world) in
    let first = passed JoinerThere (is_some world.manager.current.joiner) rest none in
    let second = passed ServersSpent (leb most_servers world.manager.made) (if_full world) first.1 in
    record { none = none_of world.manager.current.joiner first.0; few = leb-false most_servers world.manager.made second.0; room = has_room world second.1 }

pub join_sound : (world : World) → join_refusal world ≡ None → IsSound world → IsSound (joins world).after
join_sound world none sound =
    let may = may_join world none in
    told_sound (with_newcomer world) may.room (with_newcomer_sound world sound may.none may.few)
