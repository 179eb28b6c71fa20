-- What is refused where the bag is full.
use Rattle.std.specs.Prelude.{true, false, ◌≡◌, ◌<◌, ℕ, List, None, Some}
use Rattle.kr_order.specs.declared.ids.ClientId.{ClientId}
use Rattle.kr_order.specs.declared.ids.ServerId.{ServerId}
use Rattle.kr_order.specs.declared.ids.EventId.{EventId}
use Rattle.kr_order.specs.declared.history.Command.{Command}
use Rattle.kr_order.specs.declared.message.Packet.{Packet}
use Rattle.kr_protocol.specs.Client.{Client, is_busy}
use Rattle.kr_order.specs.View.{names}
use Rattle.kr_protocol.specs.Server.{Server}
use Rattle.script_lang.specs.declared.script.Event.TheVariants.{Call, Query, Retry, Deliver, Tick, Work, Notice, Join, Round}
use Rattle.kr_world.specs.declared.refusal.Refusal.TheVariants.{BagFull}
use Rattle.kr_order.specs.Marks.{is_marked}
use Rattle.kr_world.specs.World.{World, client_at, server_at, packet_at, is_stopped, has_stopped}
use Rattle.kr_world.specs.Step.{is_full, most_servers, refuses, step}

-- from 65,000 packets or 268,435,456 bytes of packets on each call and each query of an idle client, each retry of an
-- open call, each delivery, the work and the tick of each server that runs, the manager's tick, each notice of a server
-- that has stopped, and each round is refused, and changes nothing
pub record AFullBagRefuses : Type 0 where
  pub calls :
      (world : World) (id : ClientId) (command : Command) (client : Client)
      → is_full world ≡ true
      → client_at world id ≡ Some client
      → is_busy client ≡ false
      → step world (Call id command) ≡ refuses world BagFull
  pub deliveries :
      (world : World) (k : ℕ) (packet : Packet)
      → is_full world ≡ true
      → packet_at world k ≡ Some packet
      → has_stopped world packet.to ≡ false
      → is_marked world.lost k ≡ false
      → step world (Deliver k) ≡ refuses world BagFull
  pub queries :
      (world : World) (id : ClientId) (at : ServerId) (pairs : List (EventId × EventId)) (client : Client)
      (server : Server)
      → is_full world ≡ true
      → client_at world id ≡ Some client
      → server_at world at ≡ Some server
      → is_stopped world at ≡ false
      → is_busy client ≡ false
      → step world (Query id at pairs) ≡ refuses world BagFull
  pub works :
      (world : World) (at : ServerId) (workers : ℕ) (server : Server)
      → is_full world ≡ true
      → server_at world at ≡ Some server
      → is_stopped world at ≡ false
      → step world (Work at workers) ≡ refuses world BagFull
  pub retries :
      (world : World) (id : ClientId) (at : ServerId) (client : Client) (server : Server)
      → is_full world ≡ true
      → client_at world id ≡ Some client
      → server_at world at ≡ Some server
      → is_stopped world at ≡ false
      → is_busy client ≡ true
      → step world (Retry id at) ≡ refuses world BagFull
  pub ticks :
      (world : World) (at : ServerId) (server : Server)
      → is_full world ≡ true
      → server_at world at ≡ Some server
      → is_stopped world at ≡ false
      → step world (Tick (Some at)) ≡ refuses world BagFull
  pub views : (world : World) → is_full world ≡ true → step world (Tick None) ≡ refuses world BagFull
  pub notices :
      (world : World) (at : ServerId) (server : Server)
      → is_full world ≡ true
      → server_at world at ≡ Some server
      → is_stopped world at ≡ true
      → names world.manager.current server.id ≡ true
      → step world (Notice at) ≡ refuses world BagFull
  pub joins :
      (world : World)
      → is_full world ≡ true
      → world.manager.current.joiner ≡ None
      → world.manager.made < most_servers
      → step world Join ≡ refuses world BagFull
  pub rounds : (world : World) → is_full world ≡ true → step world Round ≡ refuses world BagFull
