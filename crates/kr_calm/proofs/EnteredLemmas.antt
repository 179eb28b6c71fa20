-- After the second round the first member has an entry for each command that a client began.
use Rattle.kr_order.specs.declared.message.Node.TheVariants.{Client as ToClient, Server as ToServer}
use Rattle.kr_protocol.specs.Server.{Server, server_takes}
use Rattle.kr_protocol.specs.Client.{Client, is_busy, first_of, last, learns, retries, tried_again}
use Rattle.kr_order.specs.History.{highest_seq}
use Rattle.std.proofs.Common.{List, [], ap, arith, cond, false, get_or, inl, inr, length, not, refl, subst, sym, true, ℕ, ◌&&◌, ◌++◌, ◌-◌, ◌<◌, ◌||◌, ◌∙◌, ◌∷◌, ◌≡◌, ◌≢◌, ◌≤◌}
use Rattle.std.specs.Prelude.{None, Option, Some, is_some, slice_get}
use Rattle.std.proofs.lemmas.Option.{none-some, same_Some, slice_get-get_or, slice_get_within}
use Rattle.kr_order.specs.Numbers.{numbers_to}
use Rattle.kr_order.specs.Prefix.{IsPrefix}
use Rattle.kr_order.specs.View.{in_chain}
use Rattle.kr_order.specs.declared.history.Command.{Command}
use Rattle.kr_order.specs.declared.ids.ClientId.{ClientId}
use Rattle.kr_order.specs.declared.ids.ServerId.{ServerId}
use Rattle.kr_order.specs.declared.message.Message.TheVariants.{Request}
use Rattle.kr_order.specs.declared.message.Packet.{Packet}
use Rattle.kr_order.specs.declared.view.View.{View}
use Rattle.script_lang.specs.declared.script.Event.{Event}
use Rattle.script_lang.specs.declared.script.Event.TheVariants.{Deliver, Retry, Tick}
use Rattle.kr_world.proofs.chain.ChainLemmas.{member_holds}
use Rattle.kr_world.proofs.clients.ClientLemmas.{own_id}
use Rattle.kr_world.proofs.packets.EntryLemmas.{count_within, entries_front}
use Rattle.kr_world.proofs.rounds.RoundShapeLemmas.{clients_stay, step_shape}
use Rattle.kr_world.proofs.steps.StepLemmas.{at_index}
use Rattle.kr_world.specs.Facts.{IsLawfulLog, IsTrueClient, IsTrueServer}
use Rattle.kr_world.specs.Lawful.{begun_by, entries_of}
use Rattle.kr_world.specs.Round.{aim, learn_events, learnt, learnt_retry_events, learnt_retry_of, retry_at, round_calls, round_events, tick_events}
use Rattle.kr_world.specs.Step.{deliver_refusal, refusal_of, step}
use Rattle.kr_world.specs.World.{World, client_at, is_stopped, packet_at}
use Rattle.kr_world.specs.declared.refusal.Refusal.TheVariants.{BagFull}
use Rattle.kr_calm.proofs.GoLemmas.{Goes, Has, HasClient}
use Rattle.kr_calm.proofs.InLemmas.{IsIn, in_flat_map, in_numbers, in_right}
use Rattle.kr_calm.proofs.MemberLemmas.{IsAt, at_member, at_runs, first_so, member_is, member_so, member_there, raised}
use Rattle.kr_calm.proofs.ReachedLemmas.{InCalm, IsReached, IsRoundStep}
use Rattle.kr_calm.proofs.RoomLemmas.{next}
use Rattle.kr_calm.proofs.SeqLemmas.{highest_grows, request_enters}
use Rattle.kr_calm.proofs.StayLemmas.{client_stable, has_stable, round_stays}
use Rattle.kr_calm.proofs.TakeLemmas.{has_taken, retries_now}
use Rattle.kr_calm.proofs.ViewedLemmas.{InView, view_lasts}
use Rattle.kr_calm.proofs.WayLemmas.{Comes, IsBrought, IsComing, Lasts, Stable, round_brings, sent_under_way}
use Rattle.kr_calm.specs.Calm.{HaveRoom}

-- the facts of a server's log and of a client
pub server_lawful : (world : World) (reached : IsReached world) (i : ℕ) (server : Server) → slice_get world.servers i ≡ Some server → IsLawfulLog reached.past server.log
server_lawful world reached i server at = (at_index (IsTrueServer reached.past world.history) world.servers i server reached.facts.servers at).log

pub client_true : (world : World) (reached : IsReached world) (id : ClientId) (client : Client) → client_at world id ≡ Some client → IsTrueClient reached.past world.history (id.0 - 1) client
client_true world reached id client at = reached.facts.clients (id.0 - 1) client at

pub client_is : (world : World) (reached : IsReached world) (id : ClientId) (client : Client) → 1 ≤ id.0 → client_at world id ≡ Some client → client.id ≡ id
client_is world reached id client low at = own_id reached.past world id client (record { at = at; facts = reached.facts }) low

-- who is a client has a number that is no greater than how many there are
pub client_within : (world : World) (id : ClientId) (client : Client) → client_at world id ≡ Some client → 1 ≤ id.0 → id.0 ≤ length world.clients
client_within world id client at low = let lt = slice_get_within world.clients (id.0 - 1) client at in omega arith

-- a client stands at each number up to that
pub client_there : (world : World) (id : ClientId) (some : Client) → id.0 - 1 < length world.clients → HasClient world id (λ client. Unit {0})
client_there world id some lt = record { client = get_or world.clients (id.0 - 1) some; at = slice_get-get_or world.clients (id.0 - 1) some lt; holds = tt }

-- a client that has an open call tries it again at that server
pub retry_in : (world : World) (id : ClientId) (client : Client) (to : ServerId) → client_at world id ≡ Some client → 1 ≤ id.0 → aim (learns client world.manager.current) ≡ to → is_busy client ≡ true → is_stopped world to ≡ false → IsIn (Retry id to) (round_calls world)
retry_in world id client to at low aims busy runs =
    let again : List Event = learnt_retry_events world in
    let within = client_within world id client at low in
    let now = learns client world.manager.current in
    let its : retry_at world id (learnt world (client_at world id)) ≡ cond (is_busy client && not (is_stopped world (aim now))) (Retry id (aim now) ∷ []) [] = ap (λ found. retry_at world id (learnt world found)) at in
    let test : (is_busy client && not (is_stopped world (aim now))) ≡ true = ap (λ b. b && not (is_stopped world (aim now))) busy ∙ ap (λ s. not (is_stopped world s)) aims ∙ ap not runs in
    let sole : learnt_retry_of world id.0 ≡ Retry id to ∷ [] = its ∙ ap (λ b. cond b (Retry id (aim now) ∷ []) []) test ∙ ap (λ s. Retry id s ∷ []) aims in
    let is : IsIn (Retry id to) again = in_flat_map (learnt_retry_of world) (Retry id to) id.0 (numbers_to (length world.clients)) (in_numbers id.0 (length world.clients) low within) (subst (IsIn (Retry id to)) (sym sole) (inl refl)) in
    in_right (Retry id to) (learn_events world) (Tick None ∷ (tick_events world ++ again)) (inr (in_right (Retry id to) (tick_events world) again is))

-- the first member of a view
pub first_of_chain : (ids : List ServerId) (id : ServerId) → slice_get ids 0 ≡ Some id → first_of ids ≡ id
first_of_chain [] id is = absurd (none-some id is)
first_of_chain (first ∷ ids) id is = same_Some first id is

pub busy_call : (client : Client) (command : Command) → client.call ≡ Some command → is_busy client ≡ true
busy_call client command is = ap (λ call. is_some call || is_some client.asking) is

pub aim_head : (client : Client) (command : Command) (view : View) (id : ServerId) → client.call ≡ Some command → IsAt view 0 id → aim (learns client view) ≡ id
aim_head client command view id is at = ap (λ call. cond (is_some call) (first_of view.chain) (last (learns client view))) is ∙ first_of_chain view.chain id at

module _ (view : View) (first : ServerId) (at : IsAt view 0 first) where
  -- the client's entries in the first member's log have come so far
  abbrev pub Entered : ClientId → ℕ → World → Type 0
  Entered id n world = Has world first (λ server. n ≤ highest_seq id server.log)

  abbrev pub HasBegunSo : ClientId → ℕ → World → Type 0
  HasBegunSo id n world = HasClient world id (λ client. client.seq ≡ n)

  -- where no command is open it has
  idle_entered : (world : World) → InCalm view world → (id : ClientId) (client : Client) → 1 ≤ id.0 → client_at world id ≡ Some client → client.call ≡ None → Entered id client.seq world
  idle_entered world calm id client low there none =
      let reached = calm.reached in
      let known = client_true world reached id client there in
      let own = client_is world reached id client low there in
      let its = member_there view world calm 0 first at in
      let server = its.server in
      let runs : is_stopped world first ≡ false = at_runs view world calm 0 first at in
      let holds : IsPrefix world.history server.log = member_holds world reached.sound (first.0 - 1) server its.at (ap (λ v. in_chain v server.id) calm.current ∙ ap (in_chain view) its.its ∙ at_member view (raised view world calm) 0 first at) in
      let all : length (entries_of id world.history) ≡ client.seq = subst (λ c. length (entries_of c world.history) ≡ client.seq) own (known.idle none) in
      let more = entries_front id world.history server.log holds in
      let count = count_within (begun_by id reached.past) id server.log ((server_lawful world reached (first.0 - 1) server its.at).numbered id) in
      record { server = server; at = its.at; holds = omega arith }

  module _ (id : ClientId) (low : 1 ≤ id.0) (n : ℕ) where
    -- its request
    record Asked (packet : Packet) (world : World) : Type 0 where
      command : Command
      is : packet ≡ record { from = ToClient id; to = ToServer first; message = Request n command }

    entered_grows : (old new : Server) → Goes view old new → n ≤ highest_seq id old.log → n ≤ highest_seq id new.log
    entered_grows old new goes is = omega (arith, highest_grows id old.log new.log goes.log)

    pub entered_stable : (I : World → Type 0) (lasts : Lasts view I) → Stable view I lasts (Entered id n)
    entered_stable I lasts = has_stable view I lasts first (λ server. n ≤ highest_seq id server.log) entered_grows

    pub begun_stable : (I : World → Type 0) (lasts : Lasts view I) → Stable view I lasts (HasBegunSo id n)
    begun_stable I lasts = client_stable view I lasts id (λ client. client.seq ≡ n) (λ old new goes is. goes.seq ∙ is)

    asked_brings : IsBrought view (InView view) (view_lasts view) (Entered id n) Asked
    asked_brings = record {
      stable = entered_stable (InView view) (view_lasts view);
      stays = λ packet world event is inv good. record { command = good.command; is = good.is };
      brings = λ world k packet inv good there is none. brings world k packet inv good.command good.is there none;
    }
      where
        brings : (world : World) (k : ℕ) (packet : Packet) → InView view world → (command : Command) → packet ≡ record { from = ToClient id; to = ToServer first; message = Request n command } → packet_at world k ≡ Some packet → deliver_refusal world k (Some packet) ≡ None → Entered id n (step world (Deliver k)).after
        brings world k packet inv command good there none =
            let calm = inv.calm in
            let has = inv.viewed 0 first at in
            let server = has.server in
            let its = raised view world calm in
            let own = member_is view world calm 0 first at server has.at in
            let numbered = (server_lawful world calm.reached (first.0 - 1) server has.at).numbered id in
            let member = member_so view its calm.alone 0 first at server own has.holds in
            let heads = first_so view its calm.alone 0 first at server own has.holds refl in
            let enters = request_enters server (begun_by id calm.reached.past) id n command numbered member heads in
            has_taken world k packet first server (λ s. n ≤ highest_seq id s.log) there none (ap (λ (p : Packet). p.to) good) has.at (subst (λ p. n ≤ highest_seq id (server_takes server p).after.log) (sym good) enters)

    asked_sends : (world : World) → InView view world → IsRoundStep (Retry id first) → refusal_of world (Retry id first) ≢ Some BagFull → HasBegunSo id n world → Comes view (InView view) (view_lasts view) (Entered id n) Asked (step world (Retry id first)).after
    asked_sends world inv is room begun = by_call begun.client.call refl
      where
        client : Client
        client = begun.client

        calm : InCalm view world
        calm = inv.calm

        own : client.id ≡ id
        own = client_is world calm.reached id client low begun.at

        by_call : (call : Option Command) → client.call ≡ call → Comes view (InView view) (view_lasts view) (Entered id n) Asked (step world (Retry id first)).after
        by_call None none =
            let now = idle_entered world calm id client low begun.at none in
            let now' : Entered id n world = subst (λ m. Entered id m world) begun.holds now in
            inl (entered_stable (InView view) (view_lasts view) world (Retry id first) is inv now')
        by_call (Some command) opened =
            let packet : Packet = record { from = ToClient id; to = ToServer first; message = Request n command } in
            let sent : retries client first ≡ packet ∷ [] = ap (tried_again client first) opened ∙ ap (λ c. record { from = ToClient c; to = ToServer first; message = Request client.seq command } ∷ []) own ∙ ap (λ m. record { from = ToClient id; to = ToServer first; message = Request m command } ∷ []) begun.holds in
            let sound = calm.reached.sound in
            let its = member_there view world calm 0 first at in
            let after = retries_now world id first client its.server begun.at its.at (at_runs view world calm 0 first at) (busy_call client command opened) room in
            let way = sent_under_way world world (retries client first) packet refl sound.delivered sound.lost (at_runs view world calm 0 first at) (subst (IsIn packet) (sym sent) (inl refl)) in
            inr (subst (λ w. (k : ℕ) × IsComing Asked w k) (sym after) (way.k, record { packet = packet; good = record { command = command; is = refl }; under = way.under }))

    pub round_request : (world : World) → HaveRoom world (round_events world) → InView view world → (client : Client) → client_at world id ≡ Some client → client.seq ≡ n → Entered id n (next world)
    round_request world room inv client there seq = by_call client.call refl
      where
        by_call : (call : Option Command) → client.call ≡ call → Entered id n (next world)
        by_call None none =
            let now = idle_entered world inv.calm id client low there none in
            round_stays view (InView view) (view_lasts view) (Entered id n) (entered_stable (InView view) (view_lasts view)) world inv (subst (λ m. Entered id m world) seq now)
        by_call (Some command) opened =
            let calm = inv.calm in
            let aims : aim (learns client world.manager.current) ≡ first = ap (λ v. aim (learns client v)) calm.current ∙ aim_head client command view first opened at in
            let is = retry_in world id client first there low aims (busy_call client command opened) (at_runs view world calm 0 first at) in
            round_brings view (InView view) (view_lasts view) (Entered id n) Asked asked_brings (HasBegunSo id n) (begun_stable (InView view) (view_lasts view)) (Retry id first) asked_sends world room is inv (record { client = client; at = there; holds = seq })

  -- all clients'
  abbrev pub AllEntered : World → Type 0
  AllEntered world = (id : ClientId) (client : Client) → 1 ≤ id.0 → client_at world id ≡ Some client → Entered id client.seq world

  -- a client of a later world was there before
  back : (world after : World) → length after.clients ≡ length world.clients → (id : ClientId) (client : Client) → client_at after id ≡ Some client → HasClient world id (λ c. Unit {0})
  back world after same id client there =
      let lt = slice_get_within after.clients (id.0 - 1) client there in client_there world id client (omega arith)

  pub all_stable : (I : World → Type 0) (lasts : Lasts view I) → Stable view I lasts AllEntered
  all_stable I lasts world event is inv all id client low there =
      let after = (step world event).after in
      let was = back world after (step_shape world event is.kind).clients id client there in
      let n = was.client.seq in
      let begun = begun_stable id low n I lasts world event is inv (record { client = was.client; at = was.at; holds = refl }) in
      let same : client.seq ≡ n = ap (λ (c : Client). c.seq) (same_Some client begun.client (sym there ∙ begun.at)) ∙ begun.holds in
      let entered : Entered id n after = entered_stable id low n I lasts world event is inv (all id was.client low was.at) in
      subst (λ m. Entered id m after) (sym same) entered

  pub second_round : (world : World) → HaveRoom world (round_events world) → InView view world → AllEntered (next world)
  second_round world room inv id client low there =
      let after = next world in
      let was = back world after (clients_stay world (round_events world)) id client there in
      let n = was.client.seq in
      let begun = round_stays view (InView view) (view_lasts view) (HasBegunSo id n) (begun_stable id low n (InView view) (view_lasts view)) world inv (record { client = was.client; at = was.at; holds = refl }) in
      let same : client.seq ≡ n = ap (λ (c : Client). c.seq) (same_Some client begun.client (sym there ∙ begun.at)) ∙ begun.holds in
      subst (λ m. Entered id m after) (sym same) (round_request id low n world room inv was.client was.at refl)
