-- Where the bag is full, steps that may send are refused.
use Rattle.std.proofs.Common.{◌≡◌, ℕ, true, false, List, refl, ap, ◌∙◌, ◌<◌}
use Rattle.std.specs.Prelude.{None, Some}
use Rattle.kr_order.specs.declared.ids.ClientId.{ClientId}
use Rattle.kr_order.specs.declared.ids.ServerId.{ServerId}
use Rattle.kr_order.specs.declared.ids.EventId.{EventId}
use Rattle.kr_order.specs.declared.history.Command.{Command}
use Rattle.kr_order.specs.declared.message.Packet.{Packet}
use Rattle.kr_order.specs.View.{names}
use Rattle.kr_protocol.specs.Server.{Server}
use Rattle.kr_protocol.specs.Client.{Client, is_busy}
use Rattle.script_lang.specs.declared.script.Event.{Event}
use Rattle.script_lang.specs.declared.script.Event.TheVariants.{Call, Query, Retry, Deliver, Tick, Work, Notice, Join, Round}
use Rattle.kr_world.specs.declared.refusal.Refusal.TheVariants.{BagFull}
use Rattle.kr_world.specs.FullBag.{AFullBagRefuses}
use Rattle.kr_order.specs.Marks.{is_marked}
use Rattle.kr_world.specs.World.{World, client_at, server_at, packet_at, is_stopped, has_stopped}
use Rattle.kr_world.specs.Step.{is_full, if_full, call_refusal, query_refusal, retry_refusal, turn_refusal, deliver_refusal, notice_refusal, refusal_of, refuses, act, unless, step, most_servers}
use Rattle.std.proofs.lemmas.Bool.{lt-leb}

-- an event that is refused changes nothing
refused :
    (world : World) (event : Event)
    → refusal_of world event ≡ Some BagFull
    → step world event ≡ refuses world BagFull
refused world event why = ap (λ r. unless world r (act world event)) why

full : (world : World) → is_full world ≡ true → if_full world ≡ Some BagFull
full world enough = rw enough refl

call_full :
    (world : World) (id : ClientId) (command : Command) (client : Client)
    → is_full world ≡ true
    → client_at world id ≡ Some client
    → is_busy client ≡ false
    → step world (Call id command) ≡ refuses world BagFull
call_full world id command client enough there idle =
    let why : call_refusal world (Some client) ≡ Some BagFull = rw (idle, enough) refl in
    refused world (Call id command) (ap (call_refusal world) there ∙ why)

deliver_full :
    (world : World) (k : ℕ) (packet : Packet)
    → is_full world ≡ true
    → packet_at world k ≡ Some packet
    → has_stopped world packet.to ≡ false
    → is_marked world.lost k ≡ false
    → step world (Deliver k) ≡ refuses world BagFull
deliver_full world k packet enough there runs kept =
    let why : deliver_refusal world k (Some packet) ≡ Some BagFull = rw (runs, kept, enough) refl in
    refused world (Deliver k) (ap (deliver_refusal world k) there ∙ why)

query_full :
    (world : World) (id : ClientId) (at : ServerId) (pairs : List (EventId × EventId)) (client : Client)
    (server : Server)
    → is_full world ≡ true
    → client_at world id ≡ Some client
    → server_at world at ≡ Some server
    → is_stopped world at ≡ false
    → is_busy client ≡ false
    → step world (Query id at pairs) ≡ refuses world BagFull
query_full world id at pairs client server enough there there' runs idle =
    let why : query_refusal world at (Some client) (Some server) ≡ Some BagFull = rw (runs, idle, enough) refl in
    refused world (Query id at pairs) (ap (λ found. query_refusal world at found (server_at world at)) there ∙ ap (query_refusal world at (Some client)) there' ∙ why)

retry_full :
    (world : World) (id : ClientId) (at : ServerId) (client : Client) (server : Server)
    → is_full world ≡ true
    → client_at world id ≡ Some client
    → server_at world at ≡ Some server
    → is_stopped world at ≡ false
    → is_busy client ≡ true
    → step world (Retry id at) ≡ refuses world BagFull
retry_full world id at client server enough there there' runs busy =
    let why : retry_refusal world at (Some client) (Some server) ≡ Some BagFull = rw (runs, busy, enough) refl in
    refused world (Retry id at) (ap (λ found. retry_refusal world at found (server_at world at)) there ∙ ap (retry_refusal world at (Some client)) there' ∙ why)

turn_full :
    (world : World) (at : ServerId) (server : Server)
    → is_full world ≡ true
    → is_stopped world at ≡ false
    → turn_refusal world at (Some server) ≡ Some BagFull
turn_full world at server enough runs = rw (runs, enough) refl

work_full :
    (world : World) (at : ServerId) (workers : ℕ) (server : Server)
    → is_full world ≡ true
    → server_at world at ≡ Some server
    → is_stopped world at ≡ false
    → step world (Work at workers) ≡ refuses world BagFull
work_full world at workers server enough there runs =
    refused world (Work at workers) (ap (turn_refusal world at) there ∙ turn_full world at server enough runs)

tick_full :
    (world : World) (at : ServerId) (server : Server)
    → is_full world ≡ true
    → server_at world at ≡ Some server
    → is_stopped world at ≡ false
    → step world (Tick (Some at)) ≡ refuses world BagFull
tick_full world at server enough there runs =
    refused world (Tick (Some at)) (ap (turn_refusal world at) there ∙ turn_full world at server enough runs)

view_full : (world : World) → is_full world ≡ true → step world (Tick None) ≡ refuses world BagFull
view_full world enough = refused world (Tick None) (full world enough)

notice_full :
    (world : World) (at : ServerId) (server : Server)
    → is_full world ≡ true
    → server_at world at ≡ Some server
    → is_stopped world at ≡ true
    → names world.manager.current server.id ≡ true
    → step world (Notice at) ≡ refuses world BagFull
notice_full world at server enough there stopped named =
    let why : notice_refusal world at (Some server) ≡ Some BagFull = rw (stopped, named, enough) refl in
    refused world (Notice at) (ap (notice_refusal world at) there ∙ why)

join_full :
    (world : World)
    → is_full world ≡ true
    → world.manager.current.joiner ≡ None
    → world.manager.made < most_servers
    → step world Join ≡ refuses world BagFull
join_full world enough none few =
    refused world Join (rw (none, lt-leb most_servers world.manager.made few, enough) refl)

round_full : (world : World) → is_full world ≡ true → step world Round ≡ refuses world BagFull
round_full world enough = refused world Round (full world enough)

pub full_refuses : AFullBagRefuses
full_refuses =
    record {
      calls = call_full;
      deliveries = deliver_full;
      queries = query_full;
      works = work_full;
      retries = retry_full;
      ticks = tick_full;
      views = view_full;
      notices = notice_full;
      joins = join_full;
      rounds = round_full;
    }
