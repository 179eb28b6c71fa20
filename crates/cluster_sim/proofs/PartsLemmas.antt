-- What a change of the parts makes of their world.
use Rattle.std.proofs.Common.{zero, suc, ◌≡◌, ℕ, ◌+◌, ◌-◌, ◌^◌, ◌<◌, ◌≤◌, Bool, false, List, [], ◌∷◌, ◌++◌, length, drop, refl, sym, ap, ◌∙◌, subst, arith, inl, inr}
use Rattle.std.specs.Prelude.{Option, None, Some, Result, Ok, Err, IfOk, map, slice_get, slice_set, All}
use Rattle.std.specs.Result.{OnOk}
use Rattle.std.specs.Option.{option_map}
use Rattle.std.specs.declared.vec.Vec.{Vec}
use Rattle.std.specs.declared.alloc.Global.{Global}
use Rattle.std.proofs.lemmas.Bool.{cases_lt}
use Rattle.std.proofs.lemmas.List.{append-nil, length-append, length-take, map-set, length-map, nil_from_length, length-drop}
use Rattle.std.proofs.lemmas.List.Elements.{All-set}
use Rattle.std.proofs.lemmas.Option.{slice_get-map, slice_get_within, none-some}
use Rattle.kr_order.specs.declared.ids.NoMemory.{NoMemory}
use Rattle.kr_order.specs.declared.ids.ClientId.{ClientId}
use Rattle.kr_order.specs.declared.ids.ServerId.{ServerId}
use Rattle.kr_order.specs.declared.ids.EventId.{EventId}
use Rattle.kr_order.specs.declared.history.Command.{Command}
use Rattle.kr_order.specs.declared.history.Entry.{Entry}
use Rattle.kr_order.specs.declared.history.DoneEntry.{DoneEntry}
use Rattle.kr_order.specs.declared.message.Packet.{Packet}
use Rattle.kr_order.specs.Prefix.{IsPrefix}
use Rattle.kr_order.proofs.PrefixLemmas.{IsPrefix-length}
use Rattle.kr_order.specs.Done.{done_from, done_of}
use Rattle.kr_order.proofs.HistoryLemmas.{length-done_from, done_from-append}
use Rattle.kr_protocol.specs.Manager.{Manager, views_of}
use Rattle.kr_protocol.specs.Reaction.{Reaction}
use Rattle.kr_protocol.specs.Server.{Server, acknowledged, server_takes, server_works, server_ticks}
use Rattle.kr_protocol.specs.Client.{Client, Hearing, begins, asks, retries, client_takes}
use Rattle.client_session.specs.declared.client.Heard.{Heard}
use Rattle.client_session.specs.ClientStanding.{ClientStanding}
use Rattle.client_session.specs.Calls.{Opens, OpensQuery, Accepts, Heeds}
use Rattle.chain_server.specs.declared.effects.Effects.{Effects}
use Rattle.chain_server.specs.ServerStanding.{ServerStanding}
use Rattle.chain_server.specs.Calls.{Heeds as ServerHeeds}
use Rattle.kr_order.specs.Marks.{marked}
use Rattle.kr_world.specs.World.{World, client_at, server_at, packet_at, is_stopped, has_stopped, with_packets, longest}
use Rattle.kr_world.specs.declared.refusal.Refusal.TheVariants.{NoSuchClient, NoSuchPacket}
use Rattle.kr_world.specs.Step.{Outcome, if_full, turn_refusal, call_refusal, query_refusal, retry_refusal, deliver_refusal, lose_refusal, refusal_of, told_to, parts_to, client_sends, client_hears, client_calls, client_asks, client_retries, server_reacts, arrives_at_client, arrives_at_server, arrives, delivers, loses, works, ticks_at, act, unless, step}
use Rattle.kr_world.specs.Sound.{IsSound, IsSoundPacket, HaveBegun}
use Rattle.wire_fit.specs.Spoken.{IsSpoken}
use Rattle.wire_fit.proofs.SpokenLemmas.{worlds_spoken}
use Rattle.kr_wire.specs.Valid.{IsPacket}
use Rattle.script_lang.specs.declared.script.Event.{Event}
use Rattle.script_lang.specs.Event.{IsEvent}
use Rattle.kr_order.specs.declared.message.Node.{Node}
use Rattle.kr_order.specs.declared.message.Node.TheVariants.{Server as AtServer}
use Rattle.kr_world.proofs.sound.SoundLemmas.{takes_within, work_within, tick_within, worlds_sound}
use Rattle.kr_world.proofs.steps.BagLemmas.{delivered_sound}
use Rattle.kr_world.proofs.steps.GrowLemmas.{step_grows, settled_stay}
use Rattle.kr_world.specs.Round.{AreSettled}
use Rattle.kr_world.proofs.steps.StepLemmas.{at_index, may_turn, may_deliver}
use Rattle.kr_world.proofs.chain.SeatLemmas.{IsSeated, seated, own_of}
use Rattle.kr_world.proofs.bounds.BoundsLemmas.{IsWithinBounds}
use Rattle.kr_world.proofs.bounds.ReactionLemmas.{HistoryGrows, grows_or_stays}
use Rattle.cluster_parts.specs.BagStanding.{BagStanding, IsNumbered, IsSent}
use Rattle.cluster_parts.specs.declared.parts.Parts.{Parts}
use Rattle.cluster_parts.specs.declared.parts.Noted.{Noted}
use Rattle.cluster_parts.specs.PartsStanding.{history_of, world_of, noted}
use Rattle.cluster_sim.specs.Parts.{IsWhole, IsAtRest, IsReady, IsNotedOf, Makes}

-- the node of a client in the parts is that of their world
pub client_there : (parts : Parts) (client : ClientId) (node : ClientStanding) → slice_get parts.clients.items (client.0 - 1) ≡ Some node → client_at (world_of parts) client ≡ Some node.client
client_there parts client node is =
    slice_get-map (λ (c : ClientStanding). c.client) parts.clients.items (client.0 - 1) ∙ ap (option_map (λ (c : ClientStanding). c.client)) is

pub server_there : (parts : Parts) (server : ServerId) (node : ServerStanding) → slice_get parts.servers.items (server.0 - 1) ≡ Some node → server_at (world_of parts) server ≡ Some node.server
server_there parts server node is =
    slice_get-map (λ (s : ServerStanding). s.server) parts.servers.items (server.0 - 1) ∙ ap (option_map (λ (s : ServerStanding). s.server)) is

-- the parts with another client at an index
pub clients_after : (parts : Parts) (clients : Vec ClientStanding Global) (i : ℕ) (node : ClientStanding) (after : Client) → clients.items ≡ slice_set parts.clients.items i node → node.client ≡ after → map (λ (c : ClientStanding). c.client) clients.items ≡ slice_set (world_of parts).clients i after
clients_after parts clients i node after is same =
    ap (map (λ (c : ClientStanding). c.client)) is ∙ map-set (λ (c : ClientStanding). c.client) parts.clients.items i node ∙ ap (slice_set (world_of parts).clients i) same

pub clients_whole : (old : List ClientStanding) (new : List ClientStanding) (i : ℕ) (node : ClientStanding) → new ≡ slice_set old i node → node.failed ≡ false → All (λ c. c.failed ≡ false) old → All (λ c. c.failed ≡ false) new
clients_whole old new i node is whole all =
    subst (All (λ c. c.failed ≡ false)) (sym is) (All-set (λ c. c.failed ≡ false) old i node whole all)

-- nothing was told or shown, and nothing refused
abbrev pub nothing_noted : Noted
nothing_noted = record { told = None; parts = None; shown = None; refused = None }

-- the world of parts whose bag has more packets
bag_after : (parts : Parts) (bag : BagStanding) (packets : List Packet) → IsSent parts.bag bag packets → world_of (record parts { bag = bag }) ≡ with_packets (world_of parts) packets
bag_after parts bag packets sent =
    let packets_are = sent.packets_are in
    let lost = sent.lost in
    let delivered = sent.delivered in
    let f : List Packet → List Bool → List Bool → World = λ ps ls ds. record (world_of parts) { bag = ps; lost = ls; delivered = ds } in
    ap (λ ps. f ps bag.lost bag.delivered) packets_are ∙ ap (λ ls. f (parts.bag.packets ++ packets) ls bag.delivered) lost ∙ ap (f (parts.bag.packets ++ packets) (parts.bag.lost ++ map (λ packet. false) packets)) delivered

-- what a client has done: its node and the bag have changed, and what it is told was noted
client_did : (parts : Parts) (clients : Vec ClientStanding Global) (bag : BagStanding) (client : ClientId) (new : ClientStanding) (after : Client) (sent packets : List Packet) → IsWhole parts → clients.items ≡ slice_set parts.clients.items (client.0 - 1) new → new ≡ record { client = after; failed = false } → packets ≡ sent → IsSent parts.bag bag packets → world_of (record parts { clients = clients; bag = bag }) ≡ (client_sends (world_of parts) client (record { after = after; sent = sent })).after
client_did parts clients bag client new after sent packets whole is done sends put =
    let nodes = clients_after parts clients (client.0 - 1) new after is (ap (λ (s : ClientStanding). s.client) done) in
    let bags = bag_after (record parts { clients = clients }) bag packets put in
    let w = world_of parts in
    bags ∙ ap (λ cs. with_packets (record w { clients = cs }) packets) nodes ∙ ap (with_packets (record w { clients = slice_set w.clients (client.0 - 1) after })) sends

client_sent : (parts : Parts) (clients : Vec ClientStanding Global) (bag : BagStanding) (client : ClientId) (new : ClientStanding) (reaction : Reaction Client) (packet : Packet) → IsWhole parts → clients.items ≡ slice_set parts.clients.items (client.0 - 1) new → new ≡ record { client = reaction.after; failed = false } → reaction.sent ≡ packet ∷ [] → IsSent parts.bag bag (packet ∷ []) → Makes (client_sends (world_of parts) client reaction) parts.bag.before (record parts { clients = clients; bag = bag }) nothing_noted
client_sent parts clients bag client new reaction packet whole is after sends sent =
    record {
      after = client_did parts clients bag client new reaction.after reaction.sent (packet ∷ []) whole is after (sym sends) sent;
      told = refl;
      parts = refl;
      shown = refl;
      refused = refl;
      servers = whole.servers;
      clients = clients_whole parts.clients.items clients.items (client.0 - 1) new is (ap (λ (s : ClientStanding). s.failed) after) whole.clients;
      journal = whole.journal;
      since = sent.before;
    }

-- a client has heard something, or asked
client_heeds : (parts : Parts) (clients : Vec ClientStanding Global) (bag : BagStanding) (client : ClientId) (new : ClientStanding) (hearing : Hearing) (heard : Heard) (noting : Noted) → IsWhole parts → clients.items ≡ slice_set parts.clients.items (client.0 - 1) new → Heeds hearing heard new → IsSent parts.bag bag heard.packets → IsNotedOf client heard noting → Makes (client_hears (world_of parts) client hearing) parts.bag.before (record parts { clients = clients; bag = bag }) noting
client_heeds parts clients bag client new hearing heard noting whole is heeds sent notes =
    record {
      after = client_did parts clients bag client new hearing.after hearing.sent heard.packets whole is heeds.after heeds.sent sent;
      told = notes.told ∙ ap (told_to client) heeds.told;
      parts = notes.parts ∙ ap (parts_to client) heeds.parts;
      shown = notes.shown;
      refused = notes.refused;
      servers = whole.servers;
      clients = clients_whole parts.clients.items clients.items (client.0 - 1) new is (ap (λ (s : ClientStanding). s.failed) heeds.after) whole.clients;
      journal = whole.journal;
      since = sent.before;
    }

-- a client's command
pub client_called : (parts : Parts) (clients : Vec ClientStanding Global) (bag : BagStanding) (client : ClientId) (command : Command) (old new : ClientStanding) (packet : Packet) → IsWhole parts → slice_get parts.clients.items (client.0 - 1) ≡ Some old → clients.items ≡ slice_set parts.clients.items (client.0 - 1) new → Opens old command packet new → IsSent parts.bag bag (packet ∷ []) → Makes (client_calls (world_of parts) client command (client_at (world_of parts) client)) parts.bag.before (record parts { clients = clients; bag = bag }) nothing_noted
client_called parts clients bag client command old new packet whole there is opens sent =
    subst (λ found. Makes (client_calls (world_of parts) client command found) parts.bag.before (record parts { clients = clients; bag = bag }) nothing_noted) (sym (client_there parts client old there)) (client_sent parts clients bag client new (begins old.client command) packet whole is opens.after opens.sent sent)

-- a client's query
pub client_asked : (parts : Parts) (clients : Vec ClientStanding Global) (bag : BagStanding) (client : ClientId) (server : ServerId) (pairs : List (EventId × EventId)) (old new : ClientStanding) (heard : Heard) (noting : Noted) → IsWhole parts → slice_get parts.clients.items (client.0 - 1) ≡ Some old → clients.items ≡ slice_set parts.clients.items (client.0 - 1) new → OpensQuery old server pairs heard new → IsSent parts.bag bag heard.packets → IsNotedOf client heard noting → Makes (client_asks (world_of parts) client server pairs (client_at (world_of parts) client)) parts.bag.before (record parts { clients = clients; bag = bag }) noting
client_asked parts clients bag client server pairs old new heard noting whole there is opens sent notes =
    subst (λ found. Makes (client_asks (world_of parts) client server pairs found) parts.bag.before (record parts { clients = clients; bag = bag }) noting) (sym (client_there parts client old there)) (client_heeds parts clients bag client new (asks old.client server pairs) heard noting whole is opens.heeds sent notes)

-- a client's call once more
pub client_retried : (parts : Parts) (bag : BagStanding) (client : ClientId) (server : ServerId) (node : ClientStanding) (packet : Packet) → IsWhole parts → slice_get parts.clients.items (client.0 - 1) ≡ Some node → retries node.client server ≡ packet ∷ [] → IsSent parts.bag bag (packet ∷ []) → Makes (client_retries (world_of parts) server (client_at (world_of parts) client)) parts.bag.before (record parts { bag = bag }) nothing_noted
client_retried parts bag client server node packet whole there sends sent =
    subst (λ found. Makes (client_retries (world_of parts) server found) parts.bag.before (record parts { bag = bag }) nothing_noted) (sym (client_there parts client node there)) (record {
      after = bag_after parts bag (packet ∷ []) sent ∙ ap (with_packets (world_of parts)) (sym sends);
      told = refl;
      parts = refl;
      shown = refl;
      refused = refl;
      servers = whole.servers;
      clients = whole.clients;
      journal = whole.journal;
      since = sent.before;
    })

-- a packet that a client heard
pub client_heard : (parts : Parts) (clients : Vec ClientStanding Global) (bag : BagStanding) (client : ClientId) (old new : ClientStanding) (packet : Packet) (heard : Heard) (noting : Noted) → IsWhole parts → slice_get parts.clients.items (client.0 - 1) ≡ Some old → clients.items ≡ slice_set parts.clients.items (client.0 - 1) new → Accepts old packet heard new → IsSent parts.bag bag heard.packets → IsNotedOf client heard noting → Makes (arrives_at_client (world_of parts) client packet (client_at (world_of parts) client)) parts.bag.before (record parts { clients = clients; bag = bag }) noting
client_heard parts clients bag client old new packet heard noting whole there is accepts sent notes =
    subst (λ found. Makes (arrives_at_client (world_of parts) client packet found) parts.bag.before (record parts { clients = clients; bag = bag }) noting) (sym (client_there parts client old there)) (client_heeds parts clients bag client new (client_takes old.client packet) heard noting whole is accepts.heeds sent notes)

-- what follows of the parts where something was noted
pub noted_so : (result : Result Noted NoMemory) (P : Type 0) (Q R : Noted → Type 0) → OnOk result P → IfOk result Q → ((noting : Noted) → P → Q noting → R noting) → IfOk result R
noted_so (Ok noting) P Q R sent notes made = made noting sent notes
noted_so (Err stop) P Q R sent notes made = tt

-- a journal is of the history whose done entries it has
history_of-done_from : (before entries : List Entry) → history_of (done_from before entries) ≡ entries
history_of-done_from before [] = refl
history_of-done_from before (entry ∷ entries) = ap (λ es. entry ∷ es) (history_of-done_from (before ++ entry ∷ []) entries)

pub history_of-done_of : (history : List Entry) → history_of (done_of history) ≡ history
history_of-done_of history = history_of-done_from [] history

-- the parts with another server at an index
servers_after : (parts : Parts) (servers : List ServerStanding) (i : ℕ) (node : ServerStanding) (after : Server) → servers ≡ slice_set parts.servers.items i node → node.server ≡ after → map (λ (s : ServerStanding). s.server) servers ≡ slice_set (world_of parts).servers i after
servers_after parts servers i node after is same =
    ap (map (λ (s : ServerStanding). s.server)) is ∙ map-set (λ (s : ServerStanding). s.server) parts.servers.items i node ∙ ap (slice_set (world_of parts).servers i) same

servers_whole : (old : List ServerStanding) (new : List ServerStanding) (i : ℕ) (node : ServerStanding) → new ≡ slice_set old i node → node.failed ≡ false → All (λ s. s.failed ≡ false) old → All (λ s. s.failed ≡ false) new
servers_whole old new i node is whole all =
    subst (All (λ s. s.failed ≡ false)) (sym is) (All-set (λ s. s.failed ≡ false) old i node whole all)

-- so many of a server's entries are acknowledged
length-applied : (server : Server) → server.done ≤ length server.log → length (done_of (acknowledged server)) ≡ server.done
length-applied server within =
    omega (arith, length-done_from [] (acknowledged server), length-take server.done server.log)

-- what is done of a longer history
done_more : (front more : List Entry) → done_of (front ++ more) ≡ done_of front ++ done_from front more
done_more front more = done_from-append [] front more

-- what stands behind a front of one list stands behind it in another way of writing it
behind : (front more applied committed : List DoneEntry) → front ++ more ≡ applied ++ committed → length applied ≤ length front → more ≡ drop (length front - length applied) committed
behind front more applied committed same le =
    let first : drop (length front) (front ++ more) ≡ more = drop_front front more in
    let second : drop (length front) (applied ++ committed) ≡ drop (length front - length applied) committed = drop_past applied committed (length front) le in
    sym first ∙ ap (drop (length front)) same ∙ second
  where
    drop_front : (xs ys : List DoneEntry) → drop (length xs) (xs ++ ys) ≡ ys
    drop_front [] ys = refl
    drop_front (x ∷ xs) ys = drop_front xs ys

    drop_past : (xs ys : List DoneEntry) (n : ℕ) → length xs ≤ n → drop n (xs ++ ys) ≡ drop (n - length xs) ys
    drop_past [] ys n le = ap (λ m. drop m ys) (omega arith)
    drop_past (x ∷ xs) ys zero le = absurd (omega arith)
    drop_past (x ∷ xs) ys (suc n) le = drop_past xs ys n (omega arith) ∙ ap (λ m. drop m ys) (omega arith)

-- the journal once a server has gone on is that of the history: what is new to it came behind
notes : (world : World) (journal committed : List DoneEntry) (servers : List Server) (old after : Server) → world.history ≡ history_of journal → journal ≡ done_of (history_of journal) → done_of (acknowledged after) ≡ done_of (acknowledged old) ++ committed → old.done ≤ length old.log → after.done ≤ length after.log → IsPrefix (acknowledged old) world.history → HistoryGrows world servers after → noted journal old.done committed ≡ done_of (longest world.history servers)
notes world journal committed servers old after is whole applied low high agreed grows =
    let history = world.history in
    let its : journal ≡ done_of history = whole ∙ ap done_of (sym is) in
    let counted : length journal ≡ length history = ap length its ∙ length-done_from [] history in
    let within = IsPrefix-length (acknowledged old) history agreed in
    let before = length-applied old low in
    let some : length (acknowledged old) ≡ old.done = sym (length-done_from [] (acknowledged old)) ∙ before in
    elim (cases_lt (length history) after.done) [
      | inl more ↦
          let grown : longest history servers ≡ acknowledged after = grows.more more in
          let front : IsPrefix history (acknowledged after) = subst (IsPrefix history) grown grows.front in
          let split : done_of (acknowledged after) ≡ journal ++ done_from history front.more = ap done_of front.is ∙ done_more history front.more ∙ ap (λ j. j ++ done_from history front.more) (sym its) in
          let news : done_from history front.more ≡ drop (length journal - length (done_of (acknowledged old))) committed = behind journal (done_from history front.more) (done_of (acknowledged old)) committed (sym split ∙ applied) (omega arith) in
          ap (λ n. journal ++ drop (length journal - n) committed) (sym before) ∙ ap (λ ds. journal ++ ds) (sym news) ∙ sym split ∙ ap done_of (sym grown)
      | inr few ↦
          let kept = grows.kept few in
          let all : length (done_of (acknowledged after)) ≡ length (done_of (acknowledged old)) + length committed = ap length applied ∙ length-append (done_of (acknowledged old)) committed in
          let none : drop (length journal - old.done) committed ≡ [] = nil_from_length (drop (length journal - old.done) committed) (omega (arith, length-drop (length journal - old.done) committed, before, length-applied after high)) in
          ap (λ cs. journal ++ cs) none ∙ append-nil journal ∙ its ∙ ap done_of (sym kept)
    ]

-- what has become of the parts once a server has gone on
pub record IsCarriedOut (parts made : Parts) (server : ServerId) (old new : ServerStanding) (effects : Effects) : Type 0 where
  pub there : slice_get parts.servers.items (server.0 - 1) ≡ Some old
  pub manager : made.manager ≡ parts.manager
  pub nodes : made.servers.items ≡ slice_set parts.servers.items (server.0 - 1) new
  pub marks : made.stopped ≡ parts.stopped
  pub callers : made.clients ≡ parts.clients
  pub bag : IsSent parts.bag made.bag effects.packets
  pub journal : made.journal ≡ noted parts.journal old.server.done effects.committed

-- a server's reaction: its node, the bag and the journal have changed
pub server_reacted : (parts made : Parts) (server : ServerId) (old new : ServerStanding) (reaction : Reaction Server) (effects : Effects) → IsWhole parts → is_stopped (world_of parts) server ≡ false → IsCarriedOut parts made server old new effects → IsWithinBounds (world_of parts) old.server reaction → ServerHeeds old reaction effects new → Makes (server_reacts (world_of parts) server reaction) parts.bag.before made nothing_noted
server_reacted parts made server old new reaction effects whole runs carried bounds heeds =
    let i = server.0 - 1 in
    let w = world_of parts in
    let at : server_at w server ≡ Some old.server = server_there parts server old carried.there in
    let seat : IsSeated w server old.server = seated w server old.server at runs whole.sound in
    let own = own_of w server old.server seat in
    let node_after : new.server ≡ reaction.after = ap (λ (s : ServerStanding). s.server) heeds.after in
    let grows = grows_or_stays w server old.server reaction seat bounds in
    let ss = slice_set w.servers i reaction.after in
    let down : made.journal ≡ done_of (longest w.history ss) = carried.journal ∙ notes w parts.journal effects.committed ss old.server reaction.after refl whole.journal heeds.committed own.done bounds.done own.agreed grows in
    let history : history_of made.journal ≡ longest w.history ss = ap history_of down ∙ history_of-done_of (longest w.history ss) in
    let nodes : map (λ (s : ServerStanding). s.server) made.servers.items ≡ ss = servers_after parts made.servers.items i new reaction.after carried.nodes node_after in
    let clients : map (λ (c : ClientStanding). c.client) made.clients.items ≡ w.clients = ap (λ (cs : Vec ClientStanding Global). map (λ (c : ClientStanding). c.client) cs.items) carried.callers in
    let f : Manager → Vec Bool Global → List Server → List Client → List Entry → World = λ m marks ns cs h. record { manager = m; servers = ns; stopped = marks.items; clients = cs; bag = made.bag.packets; lost = made.bag.lost; delivered = made.bag.delivered; history = h } in
    let its_nodes = map (λ (s : ServerStanding). s.server) made.servers.items in
    let its_clients = map (λ (c : ClientStanding). c.client) made.clients.items in
    let its_history = history_of made.journal in
    let changed : world_of made ≡ f parts.manager parts.stopped ss w.clients (longest w.history ss) =
    ap (λ m. f m made.stopped its_nodes its_clients its_history) carried.manager ∙ ap (λ marks. f parts.manager marks its_nodes its_clients its_history) carried.marks ∙ ap (λ ns. f parts.manager parts.stopped ns its_clients its_history) nodes ∙ ap (λ cs. f parts.manager parts.stopped ss cs its_history) clients ∙ ap (f parts.manager parts.stopped ss w.clients) history in
    let g : List Packet → List Bool → List Bool → World = λ ps ls ds. record w { servers = ss; history = longest w.history ss; bag = ps; lost = ls; delivered = ds } in
    let sent = carried.bag in
    let packets = effects.packets in
    let bags : f parts.manager parts.stopped ss w.clients (longest w.history ss) ≡ with_packets (record w { servers = ss; history = longest w.history ss }) packets = ap (λ ps. g ps made.bag.lost made.bag.delivered) sent.packets_are ∙ ap (λ ls. g (w.bag ++ packets) ls made.bag.delivered) sent.lost ∙ ap (g (w.bag ++ packets) (w.lost ++ map (λ packet. false) packets)) sent.delivered in
    record {
      after = changed ∙ bags ∙ ap (with_packets (record w { servers = ss; history = longest w.history ss })) heeds.sent;
      told = refl;
      parts = refl;
      shown = refl;
      refused = refl;
      servers = servers_whole parts.servers.items made.servers.items i new carried.nodes (ap (λ (s : ServerStanding). s.failed) heeds.after) whole.servers;
      clients = subst (λ (cs : Vec ClientStanding Global). All (λ c. c.failed ≡ false) cs.items) (sym carried.callers) whole.clients;
      journal = down ∙ ap done_of (sym history);
      since = sent.before;
    }

-- a server takes a packet
pub server_took : (parts made : Parts) (server : ServerId) (old new : ServerStanding) (packet : Packet) (effects : Effects) → IsWhole parts → is_stopped (world_of parts) server ≡ false → IsCarriedOut parts made server old new effects → IsSoundPacket (views_of parts.manager) (world_of parts).servers packet → ServerHeeds old (server_takes old.server packet) effects new → Makes (arrives_at_server (world_of parts) server packet (server_at (world_of parts) server)) parts.bag.before made nothing_noted
server_took parts made server old new packet effects whole runs carried said heeds =
    let at = server_there parts server old carried.there in
    let bounds = takes_within (world_of parts) server packet old.server (seated (world_of parts) server old.server at runs whole.sound) said in
    subst (λ found. Makes (arrives_at_server (world_of parts) server packet found) parts.bag.before made nothing_noted) (sym at) (server_reacted parts made server old new (server_takes old.server packet) effects whole runs carried bounds heeds)

-- a server works
pub server_worked : (parts made : Parts) (server : ServerId) (old new : ServerStanding) (effects : Effects) → IsWhole parts → turn_refusal (world_of parts) server (server_at (world_of parts) server) ≡ None → IsCarriedOut parts made server old new effects → ServerHeeds old (server_works old.server) effects new → Makes (works (world_of parts) server (server_at (world_of parts) server)) parts.bag.before made nothing_noted
server_worked parts made server old new effects whole none carried heeds =
    let at = server_there parts server old carried.there in
    let runs = (may_turn (world_of parts) server (server_at (world_of parts) server) (if_full (world_of parts)) none).runs in
    let bounds = work_within (world_of parts) server old.server (seated (world_of parts) server old.server at runs whole.sound) in
    subst (λ found. Makes (works (world_of parts) server found) parts.bag.before made nothing_noted) (sym at) (server_reacted parts made server old new (server_works old.server) effects whole runs carried bounds heeds)

-- a server ticks
pub server_ticked : (parts made : Parts) (server : ServerId) (old new : ServerStanding) (effects : Effects) → IsWhole parts → turn_refusal (world_of parts) server (server_at (world_of parts) server) ≡ None → IsCarriedOut parts made server old new effects → ServerHeeds old (server_ticks old.server) effects new → Makes (ticks_at (world_of parts) server (server_at (world_of parts) server)) parts.bag.before made nothing_noted
server_ticked parts made server old new effects whole none carried heeds =
    let at = server_there parts server old carried.there in
    let runs = (may_turn (world_of parts) server (server_at (world_of parts) server) (if_full (world_of parts)) none).runs in
    let bounds = tick_within (world_of parts) server old.server (seated (world_of parts) server old.server at runs whole.sound) in
    subst (λ found. Makes (ticks_at (world_of parts) server found) parts.bag.before made nothing_noted) (sym at) (server_reacted parts made server old new (server_ticks old.server) effects whole runs carried bounds heeds)

-- what a bag in which a packet was marked as delivered is
abbrev pub delivered_in : BagStanding → ℕ → BagStanding
delivered_in bag k = record bag { delivered = marked bag.delivered k }

-- parts in whose bag a packet was marked as delivered are whole
pub delivered_whole : (parts : Parts) (bag : BagStanding) (k : ℕ) → IsWhole parts → bag ≡ delivered_in parts.bag k → IsWhole (record parts { bag = bag })
delivered_whole parts bag k whole is =
    let its : IsWhole (record parts { bag = delivered_in parts.bag k }) = record {
      servers = whole.servers;
      clients = whole.clients;
      journal = whole.journal;
      sound = delivered_sound (world_of parts) k whole.sound;
    } in
    subst (λ b. IsWhole (record parts { bag = b })) (sym is) its

-- a delivery is an arrival in them
pub delivers_as : (parts : Parts) (bag : BagStanding) (k : ℕ) (packet : Packet) (to : Node) → packet_at (world_of parts) k ≡ Some packet → packet.to ≡ to → bag ≡ delivered_in parts.bag k → delivers (world_of parts) k (packet_at (world_of parts) k) ≡ arrives (world_of (record parts { bag = bag })) to packet
delivers_as parts bag k packet to at goes is =
    ap (delivers (world_of parts) k) at ∙ ap (λ t. arrives (world_of (record parts { bag = delivered_in parts.bag k })) t packet) goes ∙ ap (λ b. arrives (world_of (record parts { bag = b })) to packet) (sym is)

-- so it makes what the arrival makes
pub delivers_so : (parts made : Parts) (bag : BagStanding) (k : ℕ) (packet : Packet) (to : Node) (result : Result Noted NoMemory) → packet_at (world_of parts) k ≡ Some packet → packet.to ≡ to → bag ≡ delivered_in parts.bag k → IfOk result (Makes (arrives (world_of (record parts { bag = bag })) to packet) bag.before made) → IfOk result (Makes (delivers (world_of parts) k (packet_at (world_of parts) k)) parts.bag.before made)
delivers_so parts made bag k packet to result at goes is arrived =
    let since : bag.before ≡ parts.bag.before = ap (λ (b : BagStanding). b.before) is in
    subst (λ n. IfOk result (Makes (delivers (world_of parts) k (packet_at (world_of parts) k)) n made)) since (subst (λ outcome. IfOk result (Makes outcome bag.before made)) (sym (delivers_as parts bag k packet to at goes is)) arrived)

-- and its packets fit
pub delivers_fit : (parts : Parts) (bag : BagStanding) (k : ℕ) (packet : Packet) (to : Node) → packet_at (world_of parts) k ≡ Some packet → packet.to ≡ to → bag ≡ delivered_in parts.bag k → All IsPacket (delivers (world_of parts) k (packet_at (world_of parts) k)).after.bag → All IsPacket (arrives (world_of (record parts { bag = bag })) to packet).after.bag
delivers_fit parts bag k packet to at goes is fit =
    subst (λ (outcome : Outcome). All IsPacket outcome.after.bag) (delivers_as parts bag k packet to at goes is) fit

-- what arrives is sound
pub delivers_sound : (parts : Parts) (bag : BagStanding) (k : ℕ) (packet : Packet) → IsWhole parts → packet_at (world_of parts) k ≡ Some packet → IsSoundPacket (views_of parts.manager) (world_of (record parts { bag = bag })).servers packet
delivers_sound parts bag k packet whole at =
    at_index (IsSoundPacket (views_of parts.manager) (world_of parts).servers) parts.bag.packets (k - 1) packet whole.sound.packets at

-- and its addressee runs
pub delivers_to : (parts : Parts) (bag : BagStanding) (k : ℕ) (packet : Packet) (server : ServerId) → packet_at (world_of parts) k ≡ Some packet → packet.to ≡ AtServer server → deliver_refusal (world_of parts) k (packet_at (world_of parts) k) ≡ None → is_stopped (world_of (record parts { bag = bag })) server ≡ false
delivers_to parts bag k packet server at goes none =
    let may = may_deliver (world_of parts) k packet (ap (deliver_refusal (world_of parts) k) (sym at) ∙ none) in
    ap (has_stopped (world_of parts)) (sym goes) ∙ may.runs

-- a packet of the world is in the bag
packet_within : (bag : BagStanding) (k : ℕ) (packet : Packet) → 1 ≤ k → slice_get bag.packets (k - 1) ≡ Some packet → IsNumbered bag k
packet_within bag k packet first is = record { first = first; last = omega (arith, slice_get_within bag.packets (k - 1) packet is, first) }

-- one that may be delivered is
pub delivered_there : (parts : Parts) (k : ℕ) (found : Option Packet) → 1 ≤ k → packet_at (world_of parts) k ≡ found → deliver_refusal (world_of parts) k found ≡ None → IsNumbered parts.bag k
delivered_there parts k None first is none = absurd (none-some NoSuchPacket (sym none))
delivered_there parts k (Some packet) first is none = packet_within parts.bag k packet first is

-- and so is one that may be lost
pub lost_there : (parts : Parts) (k : ℕ) (found : Option Packet) → 1 ≤ k → packet_at (world_of parts) k ≡ found → lose_refusal (world_of parts) k found ≡ None → IsNumbered parts.bag k
lost_there parts k None first is none = absurd (none-some NoSuchPacket (sym none))
lost_there parts k (Some packet) first is none = packet_within parts.bag k packet first is

-- parts in whose bag a packet was marked as lost
pub lost_makes : (parts : Parts) (bag : BagStanding) (k : ℕ) → IsWhole parts → bag ≡ record parts.bag { lost = marked parts.bag.lost k } → Makes (loses (world_of parts) k) parts.bag.before (record parts { bag = bag }) nothing_noted
lost_makes parts bag k whole is =
    subst (λ b. Makes (loses (world_of parts) k) parts.bag.before (record parts { bag = b }) nothing_noted) (sym is) (record {
      after = refl;
      told = refl;
      parts = refl;
      shown = refl;
      refused = refl;
      servers = whole.servers;
      clients = whole.clients;
      journal = whole.journal;
      since = refl;
    })

-- a client of the world is in the parts
pub client_within : (parts : Parts) (client : ClientId) (node : Client) → client_at (world_of parts) client ≡ Some node → client.0 - 1 < length parts.clients.items
client_within parts client node is =
    omega (arith, slice_get_within (world_of parts).clients (client.0 - 1) node is, length-map parts.clients.items (λ (c : ClientStanding). c.client))

-- a client whose call is not refused is there
pub caller_there : (parts : Parts) (client : ClientId) (found : Option Client) → client_at (world_of parts) client ≡ found → call_refusal (world_of parts) found ≡ None → client.0 - 1 < length parts.clients.items
caller_there parts client None is none = absurd (none-some NoSuchClient (sym none))
caller_there parts client (Some node) is none = client_within parts client node is

-- so is one whose query is not refused
pub asker_there : (parts : Parts) (client : ClientId) (server : ServerId) (found : Option Client) (other : Option Server) → client_at (world_of parts) client ≡ found → query_refusal (world_of parts) server found other ≡ None → client.0 - 1 < length parts.clients.items
asker_there parts client server None other is none = absurd (none-some NoSuchClient (sym none))
asker_there parts client server (Some node) other is none = client_within parts client node is

-- and one whose call may be tried again
pub retrier_there : (parts : Parts) (client : ClientId) (server : ServerId) (found : Option Client) (other : Option Server) → client_at (world_of parts) client ≡ found → retry_refusal (world_of parts) server found other ≡ None → client.0 - 1 < length parts.clients.items
retrier_there parts client server None other is none = absurd (none-some NoSuchClient (sym none))
retrier_there parts client server (Some node) other is none = client_within parts client node is

-- parts that go on to a step are as they were
pub begun_rest : (parts : Parts) (bag : BagStanding) → bag ≡ record parts.bag { before = length parts.bag.packets } → IsAtRest parts → IsAtRest (record parts { bag = bag })
begun_rest parts bag is rest =
    subst (λ b. IsAtRest (record parts { bag = b })) (sym is) (record {
      whole = record { servers = rest.whole.servers; clients = rest.whole.clients; journal = rest.whole.journal; sound = rest.whole.sound };
      spoken = rest.spoken;
    })

pub begun_ready : (parts : Parts) (bag : BagStanding) (settled : ℕ) → bag ≡ record parts.bag { before = length parts.bag.packets } → IsReady parts settled → IsReady (record parts { bag = bag }) settled
begun_ready parts bag settled is ready =
    let its : AreSettled (world_of (record parts { bag = record parts.bag { before = length parts.bag.packets } })) settled = ready.settled in
    record {
      rest = begun_rest parts bag is ready.rest;
      callers = ready.callers;
      settled = subst (λ b. AreSettled (world_of (record parts { bag = b })) settled) (sym is) its;
    }

-- as many clients as in the world
pub callers_counted : (parts : Parts) → length parts.clients.items ≡ length (world_of parts).clients
callers_counted parts = sym (length-map parts.clients.items (λ (c : ClientStanding). c.client))

-- a step leaves parts at rest
pub rest_after : (old new : Parts) (event : Event) (before : ℕ) (noting : Noted) → IsAtRest old → HaveBegun (2 ^ 63 - 1) (world_of old).clients → IsEvent event → Makes (step (world_of old) event) before new noting → IsAtRest new
rest_after old new event before noting rest few fits made =
    record {
      whole = record {
        servers = made.servers;
        clients = made.clients;
        journal = made.journal;
        sound = subst IsSound (sym made.after) (worlds_sound.later (world_of old) event rest.whole.sound);
      };
      spoken = subst IsSpoken (sym made.after) (worlds_spoken.later (world_of old) event rest.whole.sound few fits rest.spoken);
    }

-- no step changes how many clients there are, and what is settled stays so
pub ready_after : (old new : Parts) (settled : ℕ) (event : Event) (before : ℕ) (noting : Noted) → IsReady old settled → HaveBegun (2 ^ 63 - 1) (world_of old).clients → IsEvent event → Makes (step (world_of old) event) before new noting → IsReady new settled
ready_after old new settled event before noting ready few fits made =
    let grows = step_grows (world_of old) event in
    let clients : length (world_of new).clients ≡ length (world_of old).clients = ap (λ (w : World). length w.clients) made.after ∙ grows.clients in
    record {
      rest = rest_after old new event before noting ready.rest few fits made;
      callers = omega (arith, clients, callers_counted new, callers_counted old, ready.callers);
      settled = subst (λ w. AreSettled w settled) (sym made.after) (settled_stay (world_of old) event settled ready.settled);
    }

-- the packets of a step that is not refused have spellings
pub act_fits : (parts : Parts) (event : Event) → IsAtRest parts → HaveBegun (2 ^ 63 - 1) (world_of parts).clients → IsEvent event → refusal_of (world_of parts) event ≡ None → All IsPacket (act (world_of parts) event).after.bag
act_fits parts event rest few fits none =
    let w = world_of parts in
    subst (λ (outcome : Outcome). All IsPacket outcome.after.bag) (ap (λ why. unless w why (act w event)) none) (worlds_spoken.later w event rest.whole.sound few fits rest.spoken).packets
