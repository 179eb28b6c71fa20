-- How far entries come down the chain in a round, and acknowledgements up.
use Rattle.kr_order.specs.declared.message.Node.TheVariants.{Server as ToServer}
use Rattle.kr_protocol.specs.Server.{Server, next, prev, is_server, ack, ack_to, window, window_to, most_entries, server_takes, server_ticks, missing}
use Rattle.std.proofs.Common.{Bool, List, [], ap, arith, cond, drop, false, inl, inr, leb, length, ltb, not, refl, subst, suc, sym, take, true, ℕ, ◌++◌, ◌+◌, ◌-◌, ◌∙◌, ◌∷◌, ◌≡◌, ◌≢◌, ◌≤◌}
use Rattle.std.specs.Prelude.{None, Option, Some, slice_get}
use Rattle.std.proofs.lemmas.Bool.{eq-eqb, le-leb, ltb-false, ltb-true}
use Rattle.std.proofs.lemmas.List.{length-append, length-drop, length-take}
use Rattle.std.proofs.lemmas.Option.{same_Some}
use Rattle.kr_order.proofs.PrefixLemmas.{IsPrefix-length}
use Rattle.kr_order.specs.Numbers.{numbers_to}
use Rattle.kr_order.specs.Prefix.{IsPrefix}
use Rattle.kr_order.specs.View.{in_chain}
use Rattle.kr_order.specs.declared.history.Entry.{Entry}
use Rattle.kr_order.specs.declared.ids.ServerId.{ServerId}
use Rattle.kr_order.specs.declared.message.Message.TheVariants.{Ack, Append}
use Rattle.kr_order.specs.declared.message.Packet.{Packet}
use Rattle.kr_order.specs.declared.view.View.{View}
use Rattle.kr_protocol.proofs.Repeats.{append_goes_on}
use Rattle.script_lang.specs.Event.{IsEvent}
use Rattle.script_lang.specs.declared.script.Event.{Event}
use Rattle.script_lang.specs.declared.script.Event.TheVariants.{Deliver, Tick, Work}
use Rattle.kr_world.proofs.runs.ActLemmas.{step_keeps}
use Rattle.kr_world.proofs.chain.ChainLemmas.{member_holds}
use Rattle.kr_world.proofs.chain.SeatLemmas.{seated}
use Rattle.kr_world.specs.Round.{after_all, learn_events, learnt_retry_events, round_calls, round_events, running, tick_events, tick_of, work_events, work_of}
use Rattle.kr_world.specs.Step.{deliver_refusal, refusal_of, server_reacts, step}
use Rattle.kr_order.specs.Marks.{is_marked}
use Rattle.kr_world.specs.World.{World, is_stopped, packet_at, server_at}
use Rattle.kr_world.specs.declared.refusal.Refusal.TheVariants.{BagFull}
use Rattle.kr_calm.proofs.FedLemmas.{ack_done, ack_fed}
use Rattle.kr_calm.proofs.GoLemmas.{Goes, Has, goes_takes, packet_said}
use Rattle.kr_calm.proofs.InLemmas.{IsIn, in_filter, in_left, in_map, in_numbers, in_right}
use Rattle.kr_calm.proofs.MemberLemmas.{IsAt, at_member, at_runs, member_is, member_low, next_there, prev_there, raised}
use Rattle.kr_calm.proofs.ReachedLemmas.{InCalm, IsReached, IsRoundStep}
use Rattle.kr_calm.proofs.StayLemmas.{both_stable, has_stable}
use Rattle.kr_calm.proofs.TakeLemmas.{has_taken, reacts_send, ticks_now}
use Rattle.kr_calm.proofs.ViewedLemmas.{HasView, InView, view_lasts}
use Rattle.kr_calm.proofs.WayLemmas.{Comes, IsBrought, IsComing, Lasts, Stable, round_brings}
use Rattle.kr_calm.specs.Calm.{HaveRoom}

-- the history grows
pub history_step : (world : World) (event : Event) → IsEvent event → IsReached world → IsPrefix world.history (step world event).after.history
history_step world event fit reached = (step_keeps reached.past world event fit reached.sound reached.facts).tells.grows

pub history_stable : (view : View) (I : World → Type 0) (lasts : Lasts view I) (h : ℕ) → Stable view I lasts (λ world. h ≤ length world.history)
history_stable view I lasts h world event is inv le =
    let front = history_step world event is.fit (lasts.calm world inv).reached in
    omega (arith, IsPrefix-length world.history (step world event).after.history front)

-- a member ticks in a round, and works
member_runs : (view : View) (world : World) (calm : InCalm view world) (i : ℕ) (id : ServerId) → IsAt view i id → IsIn id.0 (running world)
member_runs view world calm i id at =
    let bounds = member_low view world calm i id at in
    let runs : not (is_marked world.stopped id.0) ≡ true = ap not (at_runs view world calm i id at) in
    in_filter (runs_test world) id.0 (numbers_to (length world.servers)) runs (in_numbers id.0 (length world.servers) bounds.0 bounds.1)
  where
    runs_test : World → ℕ → Bool
    runs_test w n = not (is_marked w.stopped n)

pub tick_in : (view : View) (world : World) (calm : InCalm view world) (i : ℕ) (id : ServerId) → IsAt view i id → IsIn (Tick (Some id)) (round_calls world)
tick_in view world calm i id at =
    let is = in_map tick_of id.0 (running world) (member_runs view world calm i id at) in
    in_right (Tick (Some id)) (learn_events world) (Tick None ∷ (tick_events world ++ learnt_retry_events world)) (inr (in_left (Tick (Some id)) (tick_events world) (learnt_retry_events world) is))

pub work_in : (view : View) (world : World) (calm : InCalm view world) (i : ℕ) (id : ServerId) → IsAt view i id → IsIn (Work id 1) (work_events world)
work_in view world calm i id at = in_map work_of id.0 (running world) (member_runs view world calm i id at)

-- the history stands in the log of a member
pub member_has : (view : View) (world : World) → InCalm view world → (i : ℕ) (id : ServerId) → IsAt view i id → (server : Server) → server_at world id ≡ Some server → length world.history ≤ length server.log
member_has view world calm i id at server there =
    let own = member_is view world calm i id at server there in
    let member = ap (λ v. in_chain v server.id) calm.current ∙ ap (in_chain view) own ∙ at_member view (raised view world calm) i id at in
    IsPrefix-length world.history server.log (member_holds world calm.reached.sound (id.0 - 1) server there member)

is_that : (found : Option ServerId) (id : ServerId) → found ≡ Some id → is_server found id ≡ true
is_that found id is = ap (λ o. is_server o id) is ∙ eq-eqb id.0 id.0 refl

module _ (view : View) (i : ℕ) (id later : ServerId) (at : IsAt view i id) (at' : IsAt view (suc i) later) where
  -- the later member tells the earlier one, and that one passes on to it
  tells_back : (world : World) → InView view world → (server : Server) → server_at world later ≡ Some server → server.view ≡ Some view → ack server ≡ record { from = ToServer later; to = ToServer id; message = Ack server.done (length server.log) } ∷ []
  tells_back world inv server there adopted =
      let calm = inv.calm in
      let own = member_is view world calm (suc i) later at' server there in
      let before : prev server ≡ Some id = prev_there view (raised view world calm) calm.alone (suc i) later at' server own adopted i refl ∙ at in
      ap (ack_to server) before ∙ ap (λ s. record { from = ToServer s; to = ToServer id; message = Ack server.done (length server.log) } ∷ []) own

  follows_it : (world : World) → InView view world → (server : Server) → server_at world id ≡ Some server → server.view ≡ Some view → next server ≡ Some later
  follows_it world inv server there adopted =
      let calm = inv.calm in
      let own = member_is view world calm i id at server there in
      let same : i + 1 ≡ suc i = omega arith in
      next_there view (raised view world calm) calm.alone i id at server own adopted ∙ ap (slice_get view.chain) same ∙ at'

  stands_before : (world : World) → InView view world → (server : Server) → server_at world later ≡ Some server → server.view ≡ Some view → prev server ≡ Some id
  stands_before world inv server there adopted =
      let calm = inv.calm in
      let own = member_is view world calm (suc i) later at' server there in
      prev_there view (raised view world calm) calm.alone (suc i) later at' server own adopted i refl ∙ at

  -- what it is known to have been fed, by the view
  abbrev pub IsFed : ℕ → World → Type 0
  IsFed h world = Has world id (λ server. (server.view ≡ Some view) × (h ≤ server.fed))

  abbrev pub HasMany : ServerId → ℕ → World → Type 0
  HasMany member m world = Has world member (λ server. m ≤ length server.log)

  abbrev pub HasDone : ServerId → ℕ → World → Type 0
  HasDone member m world = Has world member (λ server. m ≤ server.done)

  fed_grows : (h : ℕ) (old new : Server) → Goes view old new → (old.view ≡ Some view) × (h ≤ old.fed) → (new.view ≡ Some view) × (h ≤ new.fed)
  fed_grows h old new goes both = (goes.viewed both.0, omega (arith, goes.fed both.0, both.1))

  pub fed_stable : (I : World → Type 0) (its : Lasts view I) (h : ℕ) → Stable view I its (IsFed h)
  fed_stable I its h = has_stable view I its id (λ server. (server.view ≡ Some view) × (h ≤ server.fed)) (fed_grows h)

  pub many_stable : (I : World → Type 0) (its : Lasts view I) (member : ServerId) (m : ℕ) → Stable view I its (HasMany member m)
  many_stable I its member m = has_stable view I its member (λ server. m ≤ length server.log) (λ old new goes le. omega (arith, IsPrefix-length old.log new.log goes.log))

  pub done_stable : (I : World → Type 0) (its : Lasts view I) (member : ServerId) (m : ℕ) → Stable view I its (HasDone member m)
  done_stable I its member m = has_stable view I its member (λ server. m ≤ server.done) (λ old new goes le. let more = goes.done in omega arith)

  module _ (h : ℕ) where
    -- an acknowledgement of so many
    record Acked (packet : Packet) (world : World) : Type 0 where
      done : ℕ
      len : ℕ
      is : packet ≡ record { from = ToServer later; to = ToServer id; message = Ack done len }
      long : h ≤ len
      past : h ≤ length world.history

    acked_brings : (world : World) (k : ℕ) (packet : Packet) → InView view world → Acked packet world → packet_at world k ≡ Some packet → IsRoundStep (Deliver k) → deliver_refusal world k (Some packet) ≡ None → IsFed h (step world (Deliver k)).after
    acked_brings world k packet inv good there is none =
        let calm = inv.calm in
        let has = inv.viewed i id at in
        let server = has.server in
        let runs : is_stopped world id ≡ false = at_runs view world calm i id at in
        let seat = seated world id server has.at runs calm.reached.sound in
        let goes = goes_takes view world id packet server calm seat (packet_said world k packet calm.reached.sound there) in
        let told = ack_fed server later good.done good.len (is_that (next server) later (follows_it world inv server has.at has.holds)) in
        let long = good.long in
        let past = good.past in
        let fed : h ≤ (server_takes server packet).after.fed = subst (λ p. h ≤ (server_takes server p).after.fed) (sym good.is) (omega (arith, told, member_has view world calm i id at server has.at)) in
        has_taken world k packet id server (λ s. (s.view ≡ Some view) × (h ≤ s.fed)) there none (ap (λ (p : Packet). p.to) good.is) has.at (goes.viewed has.holds, fed)

    fed_brought : IsBrought view (InView view) (view_lasts view) (IsFed h) Acked
    fed_brought = record {
      stable = fed_stable (InView view) (view_lasts view) h;
      stays = λ packet world event is inv good. record { done = good.done; len = good.len; is = good.is; long = good.long; past = history_stable view (InView view) (view_lasts view) h world event is inv good.past };
      brings = acked_brings;
    }

    acked_sends : (world : World) → InView view world → IsRoundStep (Tick (Some later)) → refusal_of world (Tick (Some later)) ≢ Some BagFull → h ≤ length world.history
        → Comes view (InView view) (view_lasts view) (IsFed h) Acked (step world (Tick (Some later))).after
    acked_sends world inv is room past =
        let calm = inv.calm in
        let sound = calm.reached.sound in
        let has = inv.viewed (suc i) later at' in
        let server = has.server in
        let packet : Packet = record { from = ToServer later; to = ToServer id; message = Ack server.done (length server.log) } in
        let sent : IsIn packet (ack server ++ window server) = in_left packet (ack server) (window server) (subst (IsIn packet) (sym (tells_back world inv server has.at has.holds)) (inl refl)) in
        let runs : is_stopped world later ≡ false = at_runs view world calm (suc i) later at' in
        let after = ticks_now world later server has.at runs room in
        let way = reacts_send world later server (ack server ++ window server) packet sound (at_runs view world calm i id at) sent in
        let now = (server_reacts world later (server_ticks server)).after in
        let grown : h ≤ length now.history = subst (λ (w : World). h ≤ length w.history) after (history_stable view (InView view) (view_lasts view) h world (Tick (Some later)) is inv past) in
        inr (subst (λ w. (k : ℕ) × IsComing Acked w k) (sym after) (way.k, record { packet = packet; good = record { done = server.done; len = length server.log; is = refl; long = omega (arith, member_has view world calm (suc i) later at' server has.at); past = grown }; under = way.under }))

    -- how many it has the next member says, and that is no fewer than the history had
    pub round_fed : (world : World) → HaveRoom world (round_events world) → InView view world → h ≤ length world.history → IsFed h (after_all world (round_events world))
    round_fed world room inv past =
        round_brings view (InView view) (view_lasts view) (IsFed h) Acked fed_brought (λ w. h ≤ length w.history) (history_stable view (InView view) (view_lasts view) h) (Tick (Some later)) acked_sends world room (tick_in view world inv.calm (suc i) later at') inv past

  module _ (m : ℕ) where
    -- entries up to so many
    record Passed (packet : Packet) (world : World) : Type 0 where
      first : ℕ
      entries : List Entry
      is : packet ≡ record { from = ToServer id; to = ToServer later; message = Append (first + 1) entries }
      long : m ≤ first + length entries
      near : HasMany later first world

    passed_brings : (world : World) (k : ℕ) (packet : Packet) → InView view world → Passed packet world → packet_at world k ≡ Some packet → IsRoundStep (Deliver k) → deliver_refusal world k (Some packet) ≡ None → HasMany later m (step world (Deliver k)).after
    passed_brings world k packet inv good there is none =
        let has = inv.viewed (suc i) later at' in
        let server = has.server in
        let on = append_goes_on server id (good.first + 1) good.entries true (is_that (prev server) id (stands_before world inv server has.at has.holds)) in
        let same : good.near.server ≡ server = same_Some good.near.server server (sym good.near.at ∙ has.at) in
        let near : good.first ≤ length server.log = subst (λ (s : Server). good.first ≤ length s.log) same good.near.holds in
        let long = good.long in
        let many : m ≤ length (server_takes server packet).after.log = subst (λ p. m ≤ length (server_takes server p).after.log) (sym good.is) (omega (arith, ap length on.log_is, grown server.log good.first good.entries near)) in
        has_taken world k packet later server (λ s. m ≤ length s.log) there none (ap (λ (p : Packet). p.to) good.is) has.at many
      where
        grown : (log : List Entry) (first : ℕ) (entries : List Entry) → first ≤ length log → first + length entries ≤ length (log ++ missing log (first + 1) entries)
        grown log first entries near =
            let test : leb (first + 1) (length log + 1) ≡ true = le-leb (first + 1) (length log + 1) (omega arith) in
            let is : missing log (first + 1) entries ≡ drop (length log + 1 - (first + 1)) entries = ap (λ b. cond b (drop (length log + 1 - (first + 1)) entries) []) test in
            omega (arith, length-append log (missing log (first + 1) entries), ap length is, length-drop (length log + 1 - (first + 1)) entries)

    many_brought : IsBrought view (InView view) (view_lasts view) (HasMany later m) Passed
    many_brought = record {
      stable = many_stable (InView view) (view_lasts view) later m;
      stays = λ packet world event is inv good. record { first = good.first; entries = good.entries; is = good.is; long = good.long; near = many_stable (InView view) (view_lasts view) later good.first world event is inv good.near };
      brings = passed_brings;
    }

    passed_sends : (h : ℕ) → m ≤ h + 16 → (world : World) → InView view world → IsRoundStep (Tick (Some id)) → refusal_of world (Tick (Some id)) ≢ Some BagFull → IsFed h world × HasMany id m world
        → Comes view (InView view) (view_lasts view) (HasMany later m) Passed (step world (Tick (Some id))).after
    passed_sends h near world inv is room holds = by_test (ltb server.fed (length server.log)) refl
      where
        server : Server
        server = holds.0.server

        calm : InCalm view world
        calm = inv.calm

        own : server.id ≡ id
        own = member_is view world calm i id at server holds.0.at

        follows : next server ≡ Some later
        follows = follows_it world inv server holds.0.at holds.0.holds.0

        its : Has world later (HasView view)
        its = inv.viewed (suc i) later at'

        many : m ≤ length server.log
        many = subst (λ (s : Server). m ≤ length s.log) (same_Some holds.1.server server (sym holds.1.at ∙ holds.0.at)) holds.1.holds

        held : server.fed ≤ length its.server.log
        held = calm.reached.held (id.0 - 1) (later.0 - 1) server its.server holds.0.at its.at (follows ∙ ap (λ s. Some s) (sym (member_is view world calm (suc i) later at' its.server its.at)))

        by_test : (more : Bool) → ltb server.fed (length server.log) ≡ more → Comes view (InView view) (view_lasts view) (HasMany later m) Passed (step world (Tick (Some id))).after
        by_test false none =
            let short = ltb-false server.fed (length server.log) none in
            let now : HasMany later m world = record { server = its.server; at = its.at; holds = omega (arith, many, held) } in
            inl (many_stable (InView view) (view_lasts view) later m world (Tick (Some id)) is inv now)
        by_test true some =
            let lt = ltb-true server.fed (length server.log) some in
            let entries = take most_entries (drop server.fed server.log) in
            let packet : Packet = record { from = ToServer id; to = ToServer later; message = Append (server.fed + 1) entries } in
            let passes : window server ≡ packet ∷ [] =
            ap (window_to server) follows ∙ ap (λ b. cond b (record { from = ToServer server.id; to = ToServer later; message = Append (server.fed + 1) entries } ∷ []) []) some
            ∙ ap (λ s. record { from = ToServer s; to = ToServer later; message = Append (server.fed + 1) entries } ∷ []) own in
            let sent : IsIn packet (ack server ++ window server) = in_right packet (ack server) (window server) (subst (IsIn packet) (sym passes) (inl refl)) in
            let runs : is_stopped world id ≡ false = at_runs view world calm i id at in
            let after = ticks_now world id server holds.0.at runs room in
            let way = reacts_send world id server (ack server ++ window server) packet calm.reached.sound (at_runs view world calm (suc i) later at') sent in
            let now = (server_reacts world id (server_ticks server)).after in
            let fed = holds.0.holds.1 in
            let before : HasMany later server.fed world = record { server = its.server; at = its.at; holds = held } in
            let still : HasMany later server.fed now = subst (HasMany later server.fed) after (many_stable (InView view) (view_lasts view) later server.fed world (Tick (Some id)) is inv before) in
            let long : m ≤ server.fed + length entries = omega (arith, many, length-take most_entries (drop server.fed server.log), length-drop server.fed server.log) in
            inr (subst (λ w. (k : ℕ) × IsComing Passed w k) (sym after) (way.k, record { packet = packet; good = record { first = server.fed; entries = entries; is = refl; long = long; near = still }; under = way.under }))

    -- so many entries come one member further
    pub round_append : (h : ℕ) → m ≤ h + 16 → (world : World) → HaveRoom world (round_events world) → InView view world → IsFed h world → HasMany id m world → HasMany later m (after_all world (round_events world))
    round_append h near world room inv fed many =
        round_brings view (InView view) (view_lasts view) (HasMany later m) Passed many_brought (λ w. IsFed h w × HasMany id m w)
        (both_stable view (InView view) (view_lasts view) (IsFed h) (HasMany id m) (fed_stable (InView view) (view_lasts view) h) (many_stable (InView view) (view_lasts view) id m))
        (Tick (Some id)) (passed_sends h near) world room (tick_in view world inv.calm i id at) inv (fed, many)

    -- an acknowledgement of so many applied
    record Applied (packet : Packet) (world : World) : Type 0 where
      done : ℕ
      len : ℕ
      is : packet ≡ record { from = ToServer later; to = ToServer id; message = Ack done len }
      long : m ≤ done
      here : HasMany id m world

    applied_brings : (world : World) (k : ℕ) (packet : Packet) → InView view world → Applied packet world → packet_at world k ≡ Some packet → IsRoundStep (Deliver k) → deliver_refusal world k (Some packet) ≡ None → HasDone id m (step world (Deliver k)).after
    applied_brings world k packet inv good there is none =
        let has = inv.viewed i id at in
        let server = has.server in
        let told = ack_done server later good.done good.len (is_that (next server) later (follows_it world inv server has.at has.holds)) in
        let many : m ≤ length server.log = subst (λ (s : Server). m ≤ length s.log) (same_Some good.here.server server (sym good.here.at ∙ has.at)) good.here.holds in
        let long = good.long in
        let done : m ≤ (server_takes server packet).after.done = subst (λ p. m ≤ (server_takes server p).after.done) (sym good.is) (omega (arith, told, many)) in
        has_taken world k packet id server (λ s. m ≤ s.done) there none (ap (λ (p : Packet). p.to) good.is) has.at done

    done_brought : IsBrought view (InView view) (view_lasts view) (HasDone id m) Applied
    done_brought = record {
      stable = done_stable (InView view) (view_lasts view) id m;
      stays = λ packet world event is inv good. record { done = good.done; len = good.len; is = good.is; long = good.long; here = many_stable (InView view) (view_lasts view) id m world event is inv good.here };
      brings = applied_brings;
    }

    applied_sends : (world : World) → InView view world → IsRoundStep (Tick (Some later)) → refusal_of world (Tick (Some later)) ≢ Some BagFull → HasMany id m world × HasDone later m world
        → Comes view (InView view) (view_lasts view) (HasDone id m) Applied (step world (Tick (Some later))).after
    applied_sends world inv is room holds =
        let calm = inv.calm in
        let has = inv.viewed (suc i) later at' in
        let server = has.server in
        let packet : Packet = record { from = ToServer later; to = ToServer id; message = Ack server.done (length server.log) } in
        let sent : IsIn packet (ack server ++ window server) = in_left packet (ack server) (window server) (subst (IsIn packet) (sym (tells_back world inv server has.at has.holds)) (inl refl)) in
        let runs : is_stopped world later ≡ false = at_runs view world calm (suc i) later at' in
        let after = ticks_now world later server has.at runs room in
        let way = reacts_send world later server (ack server ++ window server) packet calm.reached.sound (at_runs view world calm i id at) sent in
        let now = (server_reacts world later (server_ticks server)).after in
        let done : m ≤ server.done = subst (λ (s : Server). m ≤ s.done) (same_Some holds.1.server server (sym holds.1.at ∙ has.at)) holds.1.holds in
        let still : HasMany id m now = subst (HasMany id m) after (many_stable (InView view) (view_lasts view) id m world (Tick (Some later)) is inv holds.0) in
        inr (subst (λ w. (k : ℕ) × IsComing Applied w k) (sym after) (way.k, record { packet = packet; good = record { done = server.done; len = length server.log; is = refl; long = done; here = still }; under = way.under }))

    -- so many acknowledged come one member back
    pub round_ack : (world : World) → HaveRoom world (round_events world) → InView view world → HasMany id m world → HasDone later m world → HasDone id m (after_all world (round_events world))
    round_ack world room inv many done =
        round_brings view (InView view) (view_lasts view) (HasDone id m) Applied done_brought (λ w. HasMany id m w × HasDone later m w)
        (both_stable view (InView view) (view_lasts view) (HasMany id m) (HasDone later m) (many_stable (InView view) (view_lasts view) id m) (done_stable (InView view) (view_lasts view) later m))
        (Tick (Some later)) applied_sends world room (tick_in view world inv.calm (suc i) later at') inv (many, done)
