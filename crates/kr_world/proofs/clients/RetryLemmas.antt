-- A client's open call, tried once more, keeps the facts.
use Rattle.std.proofs.Common.{◌≡◌, ℕ, ◌-◌, List, [], refl}
use Rattle.std.specs.Prelude.{Option, None, Some, All}
use Rattle.std.proofs.lemmas.List.Elements.{All-nil, All-cons}
use Rattle.kr_order.specs.declared.ids.ClientId.{ClientId}
use Rattle.kr_order.specs.declared.ids.ServerId.{ServerId}
use Rattle.kr_order.specs.declared.ids.EventId.{EventId}
use Rattle.kr_order.specs.declared.history.Command.{Command}
use Rattle.kr_order.specs.declared.history.Entry.{Entry}
use Rattle.kr_protocol.specs.Client.{Client, asked_again, tried_again, retries}
use Rattle.kr_world.specs.World.{World, client_at}
use Rattle.kr_world.specs.Step.{client_retries}
use Rattle.kr_world.specs.Run.{Turn}
use Rattle.kr_world.specs.Facts.{IsAsked, IsTruePacket, IsTrueClient, AreFacts}
use Rattle.kr_world.proofs.facts.FactLemmas.{sent_facts}
use Rattle.kr_world.proofs.facts.KeepLemmas.{GoesOn, quiet_goes_on}

-- a query that is open was asked, and a command that is open was begun
pub asked_true : (past : List Turn) (history : List Entry) (i : ℕ) (client : Client) (server : ServerId)
    (asking : Option (List (EventId × EventId))) → client.asking ≡ asking → IsTrueClient past history i client
    → All (IsTruePacket past history) (asked_again client server asking)
asked_true past history i client server None is known = All-nil (IsTruePacket past history)
asked_true past history i client server (Some pairs) is known =
    let asked : IsAsked past history client.id client.q client.part pairs = record { seen = client.seen; asked = known.queries.asked pairs is; within = known.within } in
    All-cons (IsTruePacket past history) _ [] asked (All-nil (IsTruePacket past history))

tried_true : (past : List Turn) (history : List Entry) (i : ℕ) (client : Client) (server : ServerId)
    (call : Option Command) → client.call ≡ call → IsTrueClient past history i client
    → All (IsTruePacket past history) (tried_again client server call)
tried_true past history i client server None is known = asked_true past history i client server client.asking refl known
tried_true past history i client server (Some command) is known =
    All-cons (IsTruePacket past history) _ [] (known.command command is) (All-nil (IsTruePacket past history))

pub retry_goes_on : (past : List Turn) (world : World) (id : ClientId) (server : ServerId) (found : Option Client)
    → client_at world id ≡ found → AreFacts past world → GoesOn past world (client_retries world server found)
retry_goes_on past world id server None is facts = quiet_goes_on past world world refl facts
retry_goes_on past world id server (Some client) is facts =
    let said = tried_true past world.history (id.0 - 1) client server client.call refl (facts.clients (id.0 - 1) client is) in
    quiet_goes_on past world _ refl (sent_facts past world (retries client server) said facts)
