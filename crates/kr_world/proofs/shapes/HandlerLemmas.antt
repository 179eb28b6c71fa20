-- What a server does with each packet has the shape of a reaction.
use Rattle.std.proofs.Common.{◌≡◌, Bool, true, false, cond, refl, sym, ap, subst}
use Rattle.std.specs.Prelude.{Some}
use Rattle.kr_order.specs.declared.ids.ClientId.{ClientId}
use Rattle.kr_order.specs.declared.ids.ServerId.{ServerId}
use Rattle.kr_order.specs.declared.message.Node as nodes
use Rattle.kr_order.specs.declared.message.Node.TheVariants.{Manager, Client as OfClient, Server as OfServer}
use Rattle.kr_order.specs.declared.message.Message.{Message}
use Rattle.kr_order.specs.declared.message.Message.TheVariants.{Request, Append, Ack, NewView, Ask}
use Rattle.kr_order.specs.declared.message.Packet.{Packet}
use Rattle.kr_order.specs.declared.view.View.{View}
use Rattle.kr_protocol.specs.Reaction.{ignored}
use Rattle.kr_protocol.specs.Server.{Server, may_adopt, adopts, from_client, from_server, server_takes}
use Rattle.kr_world.proofs.shapes.ShapeLemmas.{HasShape, IsCounted}
use Rattle.kr_world.proofs.shapes.RequestLemmas.{request_shape}
use Rattle.kr_world.proofs.shapes.AppendLemmas.{append_shape}
use Rattle.kr_world.proofs.shapes.AcknowledgeLemmas.{ack_shape}
use Rattle.kr_world.proofs.shapes.TurnLemmas.{ignored_shape, ask_shape}

client_shape :
    (server : Server) (client : ClientId) (to : nodes.Node) (message : Message)
    → IsCounted server
    → HasShape (Some (record { from = OfClient client; to = to; message = message })) server (from_client server client message)
client_shape server client to (Request seq command) counted = request_shape server client to seq command counted
client_shape server client to (Ask q part pairs) counted = ask_shape server client to q part pairs
client_shape server client to other counted = ignored_shape (Some (record { from = OfClient client; to = to; message = other })) server

server_shape :
    (server : Server) (from : ServerId) (to : nodes.Node) (message : Message)
    → IsCounted server
    → HasShape (Some (record { from = OfServer from; to = to; message = message })) server (from_server server from message)
server_shape server from to (Append first entries) counted = append_shape server from to first entries
server_shape server from to (Ack done len) counted = ack_shape server from to done len counted
server_shape server from to other counted = ignored_shape (Some (record { from = OfServer from; to = to; message = other })) server

-- every reaction to a packet has that shape, but that to a view that the server adopts
pub data IsTaken (server : Server) : Packet → Type 0 where
  adopts_view :
      (to : nodes.Node) (view : View)
      → may_adopt server view ≡ true
      → IsTaken server (record { from = Manager; to = to; message = NewView view })
  has_shape : (packet : Packet) → HasShape (Some packet) server (server_takes server packet) → IsTaken server packet

view_taken : (server : Server) (to : nodes.Node) (view : View) → IsTaken server (record { from = Manager; to = to; message = NewView view })
view_taken server to view = by_test (may_adopt server view) refl
  where
    packet : Packet
    packet = record { from = Manager; to = to; message = NewView view }

    by_test : (test : Bool) → may_adopt server view ≡ test → IsTaken server packet
    by_test true may = adopts_view to view may
    by_test false may =
        let ignores : server_takes server packet ≡ ignored server = ap (λ test. cond test (adopts server view) (ignored server)) may in
        has_shape packet (subst (HasShape (Some packet) server) (sym ignores) (ignored_shape (Some packet) server))

manager_taken : (server : Server) (to : nodes.Node) (message : Message) → IsTaken server (record { from = Manager; to = to; message = message })
manager_taken server to (NewView view) = view_taken server to view
manager_taken server to other =
    let packet : Packet = record { from = Manager; to = to; message = other } in has_shape packet (ignored_shape (Some packet) server)

-- by who sent it
sender_taken :
    (server : Server) (from to : nodes.Node) (message : Message)
    → IsCounted server
    → IsTaken server (record { from = from; to = to; message = message })
sender_taken server Manager to message counted = manager_taken server to message
sender_taken server (OfClient client) to message counted = has_shape _ (client_shape server client to message counted)
sender_taken server (OfServer from) to message counted = has_shape _ (server_shape server from to message counted)

pub taken_of :
    (server : Server) (packet : Packet)
    → IsCounted server
    → IsTaken server packet
taken_of server packet counted = sender_taken server packet.from packet.to packet.message counted
