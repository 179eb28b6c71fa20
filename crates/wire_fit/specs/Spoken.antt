-- What holds of every world of a run so that each packet in its bag has a spelling.
use Rattle.std.specs.Prelude.{ℕ, ◌+◌, ◌-◌, ◌^◌, ◌≤◌, List, length, All, Option, None, Some}
use Rattle.kr_order.specs.declared.ids.EventId.{EventId}
use Rattle.kr_order.specs.declared.answer.Query.{Query}
use Rattle.kr_order.specs.declared.history.Command.{Command}
use Rattle.kr_protocol.specs.Manager.{views_of}
use Rattle.kr_protocol.specs.Server.{Server}
use Rattle.kr_protocol.specs.Client.{Client}
use Rattle.script_lang.specs.declared.script.Event.{Event}
use Rattle.script_lang.specs.Event.{IsEvent}
use Rattle.script_lang.specs.Script.{IsSize}
use Rattle.kr_wire.specs.Valid.{IsFrom, IsId, IsNumber, AreItems, IsAskedPair, IsCommand, IsEntry, IsView, IsPacket}
use Rattle.kr_world.specs.World.{World, first_world}
use Rattle.kr_world.specs.Step.{step}
use Rattle.kr_world.specs.Sound.{IsSound, HaveBegun}

-- a query that waits
pub record IsSpokenQuery (query : Query) : Type 0 where
  pub client : IsId query.client.0
  pub q : IsNumber query.q
  pub part : IsFrom 1 2 query.part
  pub pairs : AreItems 1 32 IsAskedPair query.pairs

-- what a server has of others: the entries in its log, and the queries that wait
pub record IsSpokenServer (server : Server) : Type 0 where
  pub log : All IsEntry server.log
  pub waiting : All IsSpokenQuery server.waiting

-- an open command, which has a number from 1
pub record IsSpokenCall (seq : ℕ) (command : Command) : Type 0 where
  pub begun : 1 ≤ seq
  pub fits : IsCommand command

-- the pairs of an open query, which has a number from 1
pub record IsSpokenAsked (q : ℕ) (pairs : List (EventId × EventId)) : Type 0 where
  pub begun : 1 ≤ q
  pub fit : AreItems 1 32 IsAskedPair pairs

-- what is open, if anything is
abbrev pub IsSpokenOpen : {X : Type 0} → (X → Type 0) → Option X → Type 0
IsSpokenOpen Fits None = Unit {0}
IsSpokenOpen Fits (Some x) = Fits x

-- what a client may say: its open command or query, to a server of the view that it knows
pub record IsSpokenClient (client : Client) : Type 0 where
  pub id : IsId client.id.0
  pub call : IsSpokenOpen (IsSpokenCall client.seq) client.call
  pub part : IsFrom 1 2 client.part
  pub asking : IsSpokenOpen (IsSpokenAsked client.q) client.asking
  pub known : IsView client.known

-- each packet that was sent can be spelt, and so can what clients, servers and the manager may send next
pub record IsSpoken (world : World) : Type 0 where
  -- each packet of the bag has a spelling
  pub packets : All IsPacket world.bag
  -- and each view that the manager made
  pub views : All IsView (views_of world.manager)
  -- the number of the current one is small, since each but the first was announced to somebody
  pub number : world.manager.current.number ≤ length world.bag + 1
  pub servers : All IsSpokenServer world.servers
  pub clients : All IsSpokenClient world.clients

-- the first world is spoken, and every step keeps a world so, where no client has begun too many queries for their
-- numbers to be spelt
pub record WorldsAreSpoken : Type 0 where
  pub first : (servers clients : ℕ) → IsSize servers clients → IsSpoken (first_world servers clients)
  pub later :
      (world : World) (event : Event)
      → IsSound world
      → HaveBegun (2 ^ 63 - 1) world.clients
      → IsEvent event
      → IsSpoken world
      → IsSpoken (step world event).after
