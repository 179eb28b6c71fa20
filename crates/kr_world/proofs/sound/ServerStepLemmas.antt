-- A server that goes on within bounds keeps the world sound.
use Rattle.std.proofs.Common.{◌≡◌, ◌≢◌, ◌⊎◌, ℕ, ◌+◌, ◌-◌, ◌<◌, ◌≤◌, Bool, true, false, List, ◌++◌, length, set, refl, sym, ap, ◌∙◌, subst, arith, inl, inr}
use Rattle.std.specs.Prelude.{Some, slice_get, All}
use Rattle.std.proofs.lemmas.List.{length-append, length-set, length-take-le}
use Rattle.std.proofs.lemmas.Option.{same_Some}
use Rattle.std.proofs.lemmas.List.Elements.{All-append, All-weaker}
use Rattle.kr_order.specs.declared.ids.ServerId.{ServerId}
use Rattle.kr_order.specs.declared.history.Entry.{Entry}
use Rattle.kr_order.specs.Prefix.{IsPrefix}
use Rattle.kr_order.specs.View.{last_member}
use Rattle.kr_order.proofs.PrefixLemmas.{IsPrefix-length}
use Rattle.kr_protocol.specs.Manager.{views_of}
use Rattle.kr_protocol.specs.Reaction.{Reaction}
use Rattle.kr_protocol.specs.Server.{Server, acknowledged, is_at_tail, behind, view_number}
use Rattle.kr_world.specs.World.{World, is_stopped, longest}
use Rattle.kr_world.specs.Step.{bag_limit, server_reacts}
use Rattle.kr_world.specs.Sound.{IsSound, IsSoundServer, IsSoundPacket, OldTailsKnow, NeedCovers, WasBeside}
use Rattle.kr_world.proofs.steps.ListFacts.{each_after_set, set_here, set_other}
use Rattle.kr_world.proofs.chain.ChainLemmas.{chain_of, was_beside, beside_now}
use Rattle.kr_world.proofs.chain.SeatLemmas.{IsSeated, own_of, seat_within, behind_not_tail, last_low}
use Rattle.kr_world.proofs.chain.SaidLemmas.{GoesOn, IsSaid, message_stays, said_message}
use Rattle.kr_world.proofs.bounds.BoundsLemmas.{IsNeeded, IsWithinBounds, below_after}
use Rattle.kr_world.proofs.bounds.ReactionLemmas.{grows_or_stays, after_is_last}
use Rattle.kr_world.proofs.steps.BagLemmas.{calls_under, marks_more, other_later}

-- the servers once one has gone on, and the history then
abbrev servers_now : World → ServerId → Reaction Server → List Server
servers_now world id reaction = set world.servers (id.0 - 1) reaction.after

abbrev history_now : World → ServerId → Reaction Server → List Entry
history_now world id reaction = longest world.history (servers_now world id reaction)

-- the server that has gone on is sound in the world afterwards
server_after :
    (world : World) (id : ServerId) (old : Server) (reaction : Reaction Server)
    → IsSeated world id old
    → IsWithinBounds world old reaction
    → IsSoundServer (views_of world.manager) (servers_now world id reaction) (history_now world id reaction) (length (world.bag ++ reaction.sent)) (id.0 - 1) reaction.after
server_after world id old reaction seat bounds =
    let own = own_of world id old seat in
    let grows = grows_or_stays world id old reaction seat bounds in
    let counted = bounds.counted in
    let entries = own.entries in
    let here = set_here world.servers (id.0 - 1) reaction.after (seat_within world id old seat) in
    record {
      id = ap (λ (d : ServerId). d.0) bounds.id ∙ own.id;
      own_view = bounds.own_view;
      done = bounds.done;
      fed = bounds.fed;
      below = below_after world id old reaction seat bounds (id.0 - 1) reaction.after here;
      agreed = grows.agreed;
      full = bounds.full;
      waiting = bounds.waiting;
      entries = omega (arith, length-append world.bag reaction.sent);
    }

-- so are all servers
servers_after :
    (world : World) (id : ServerId) (old : Server) (reaction : Reaction Server)
    → IsSeated world id old
    → IsWithinBounds world old reaction
    → (i : ℕ) (server : Server)
    → slice_get (servers_now world id reaction) i ≡ Some server
    → IsSoundServer (views_of world.manager) (servers_now world id reaction) (history_now world id reaction) (length (world.bag ++ reaction.sent)) i server
servers_after world id old reaction seat bounds =
    let now = servers_now world id reaction in
    let grows = grows_or_stays world id old reaction seat bounds in
    let history = history_now world id reaction in
    let packets = length (world.bag ++ reaction.sent) in
    let longer = length-append world.bag reaction.sent in
    each_after_set (IsSoundServer (views_of world.manager) now history packets) world.servers (id.0 - 1) reaction.after
    (server_after world id old reaction seat bounds)
    (λ i server other there.
    let stands = set_other world.servers (id.0 - 1) reaction.after i server other there in
    other_later world now history packets i server seat.sound there (omega arith) grows.front (below_after world id old reaction seat bounds i server stands))

-- what a joiner has to have stays, where it is the same one that the server saw before
need_stays :
    (world : World) (id : ServerId) (old : Server) (reaction : Reaction Server)
    → IsSeated world id old
    → IsWithinBounds world old reaction
    → (joiner : ServerId)
    → WasBeside (views_of world.manager) old joiner
    → behind reaction.after ≡ Some joiner
    → (behind old ≡ Some joiner) × (reaction.after.need ≡ old.need)
need_stays world id old reaction seat bounds joiner beside is = by_case (bounds.need joiner is)
  where
    after : Server
    after = reaction.after

    before : behind old ≡ Some joiner
    before =
        let chain = chain_of world seat.sound in
        let now = beside_now (is_stopped world) world.manager world.servers chain after joiner bounds.own_view is in
        let number = now.number in
        let no_older = bounds.no_older in
        was_beside (is_stopped world) world.manager world.servers chain old now.was.heard joiner beside (own_of world id old seat).own_view now.was.listed (omega arith) now.was.joins (now.was.last ∙ ap (λ d. Some d) bounds.id)

    by_case : IsNeeded old after joiner → (behind old ≡ Some joiner) × (after.need ≡ old.need)
    by_case (inl both) = both
    by_case (inr both) = absurd (both.0 before)

-- the packets are true of the servers then
packets_after :
    (world : World) (id : ServerId) (old : Server) (reaction : Reaction Server)
    → IsSeated world id old
    → IsWithinBounds world old reaction
    → All (IsSoundPacket (views_of world.manager) (servers_now world id reaction)) (world.bag ++ reaction.sent)
packets_after world id old reaction seat bounds =
    let i = id.0 - 1 in
    let after = reaction.after in
    let now = servers_now world id reaction in
    let number = (own_of world id old seat).id in
    let same = ap (λ (d : ServerId). d.0) bounds.id in
    let views = views_of world.manager in
    let on : GoesOn views old after =
    record { id = bounds.id; grows = bounds.grows; done_grows = bounds.done_grows; no_older = bounds.no_older; need_stays = λ joiner beside is. need_stays world id old reaction seat bounds joiner beside is } in
    let Now = IsSoundPacket views now in
    let said : All (IsSaid world.servers after) reaction.sent = bounds.sent in
    let place : set world.servers (after.id.0 - 1) after ≡ now = ap (λ k. set world.servers k after) (omega arith) in
    let here : slice_get (set world.servers (after.id.0 - 1) after) (after.id.0 - 1) ≡ Some after =
    set_here world.servers (after.id.0 - 1) after (let lt = seat_within world id old seat in omega arith) in
    let joins = beside_now (is_stopped world) world.manager world.servers (chain_of world seat.sound) after in
    All-append Now world.bag reaction.sent
    (All-weaker (IsSoundPacket views world.servers) Now (λ packet said. message_stays views world.servers i old after packet.from packet.message seat.at on said) world.bag seat.sound.packets)
    (All-weaker (IsSaid world.servers after) Now (λ packet said. subst (λ servers. IsSoundPacket views servers packet) place (said_message views world.servers after packet.from packet.message (omega arith) here (λ joiner is. joins joiner bounds.own_view is) said)) reaction.sent said)

-- and old tails know still
old_tails_after :
    (world : World) (id : ServerId) (old : Server) (reaction : Reaction Server)
    → IsSeated world id old
    → IsWithinBounds world old reaction
    → OldTailsKnow (server_reacts world id reaction).after
old_tails_after world id old reaction seat bounds k view tail server listed none last there =
    each_after_set (λ j s. j ≡ tail.0 - 1 → Knows s) world.servers (id.0 - 1) reaction.after
    (λ same. later (seat.sound.old_tails k view tail old listed none last (subst (λ j. slice_get world.servers j ≡ Some old) same seat.at)))
    (λ j s other at same. seat.sound.old_tails k view tail s listed none last (subst (λ i. slice_get world.servers i ≡ Some s) same at))
    (tail.0 - 1) server there refl
  where
    Knows : Server → Type 0
    Knows s = (last_member world.manager.current ≡ Some tail) ⊎ ((is_stopped world tail ≡ true) ⊎ (view.number < view_number s.view))

    later : Knows old → Knows reaction.after
    later (inl last) = inl last
    later (inr (inl stopped)) = inr (inl stopped)
    later (inr (inr newer)) = let no_older = bounds.no_older in inr (inr (omega arith))

-- need covers the history still: it does not grow while a joiner stands behind the last member
need_covers_after :
    (world : World) (id : ServerId) (old : Server) (reaction : Reaction Server)
    → IsSeated world id old
    → IsWithinBounds world old reaction
    → NeedCovers (server_reacts world id reaction).after
need_covers_after world id old reaction seat bounds joiner last server joins ends there stands =
    each_after_set (λ j s. j ≡ last.0 - 1 → behind s ≡ Some joiner → length (history_now world id reaction) ≤ s.need) world.servers (id.0 - 1) reaction.after
    (λ same stands. own_covers same stands)
    (λ j s other at same stands. other_covers j s other at same stands)
    (last.0 - 1) server there refl stands
  where
    after : Server
    after = reaction.after

    history_stays : is_at_tail after ≡ false → length (history_now world id reaction) ≡ length world.history
    history_stays tail = ap length ((grows_or_stays world id old reaction seat bounds).kept (let its = bounds.agreed tail in within its))
      where
        within : IsPrefix (acknowledged after) world.history → after.done ≤ length world.history
        within its = let long = length-take-le after.done after.log bounds.done in omega (arith, IsPrefix-length (acknowledged after) world.history its)

    -- the one that goes on is the last member
    own_covers : id.0 - 1 ≡ last.0 - 1 → behind after ≡ Some joiner → length (history_now world id reaction) ≤ after.need
    own_covers same stands =
        let kept = history_stays (behind_not_tail after joiner stands) in
        by_need kept (bounds.need joiner stands)
      where
        at : slice_get world.servers (last.0 - 1) ≡ Some old
        at = subst (λ k. slice_get world.servers k ≡ Some old) same seat.at

        by_need : length (history_now world id reaction) ≡ length world.history → IsNeeded old after joiner → length (history_now world id reaction) ≤ after.need
        by_need kept (inl both) =
            let need = both.1 in
            let covers = seat.sound.need_covers joiner last old joins ends at both.0 in
            omega arith
        by_need kept (inr both) =
            let need = both.1 in
            omega (arith, IsPrefix-length world.history old.log (seat.sound.last_holds last old ends at))

    -- or another is
    other_covers : (j : ℕ) (s : Server) → j ≢ id.0 - 1 → slice_get world.servers j ≡ Some s → j ≡ last.0 - 1 → behind s ≡ Some joiner → length (history_now world id reaction) ≤ s.need
    other_covers j s other at same stands = by_tail (is_at_tail after) refl
      where
        covers : length world.history ≤ s.need
        covers = seat.sound.need_covers joiner last s joins ends (subst (λ k. slice_get world.servers k ≡ Some s) same at) stands

        by_tail : (tail : Bool) → is_at_tail after ≡ tail → length (history_now world id reaction) ≤ s.need
        by_tail false tail = omega (arith, history_stays tail, covers)
        by_tail true tail =
            let ends' = after_is_last world id old reaction seat bounds tail in
            let number = (own_of world id old seat).id in
            let low = (last_low world seat.sound last ends) in
            absurd (other (omega (arith, ap (λ (d : ServerId). d.0) (same_Some last old.id (sym ends ∙ ends')))))

pub reacts_sound :
    (world : World) (id : ServerId) (old : Server) (reaction : Reaction Server)
    → IsSeated world id old
    → length world.bag < bag_limit
    → IsWithinBounds world old reaction
    → IsSound (server_reacts world id reaction).after
reacts_sound world id old reaction seat room bounds =
    let sound = seat.sound in
    let bag = world.bag ++ reaction.sent in
    let count : length (servers_now world id reaction) ≡ length world.servers = length-set world.servers (id.0 - 1) reaction.after in
    let longer : length bag ≡ length world.bag + length reaction.sent = length-append world.bag reaction.sent in
    let most = bounds.most in
    let gained = bounds.gained in
    let entries = (own_of world id old seat).entries in
    let under : length world.bag ≤ length bag = omega arith in
    let grows = grows_or_stays world id old reaction seat bounds in
    record {
      evolves = sound.evolves;
      made = sound.made ∙ sym count;
      few = subst (λ n. n ≤ 64) (sym count) sound.few;
      served = sound.served;
      servers = servers_after world id old reaction seat bounds;
      last_holds = grows.last_holds;
      old_tails = old_tails_after world id old reaction seat bounds;
      need_covers = need_covers_after world id old reaction seat bounds;
      packets = packets_after world id old reaction seat bounds;
      calls = calls_under world.clients (length world.bag) (length bag) under sound.calls;
      bag = omega arith;
      stopped = sound.stopped ∙ sym count;
      lost = marks_more world.lost world.bag reaction.sent sound.lost;
      delivered = marks_more world.delivered world.bag reaction.sent sound.delivered;
    }
