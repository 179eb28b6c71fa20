-- A sound world stays so when its marks are set, and when packets go into the bag.
use Rattle.std.proofs.Common.{◌≡◌, ℕ, ◌+◌, ◌-◌, ◌≤◌, Bool, true, false, List, ◌++◌, length, map, ◌∙◌, arith}
use Rattle.std.specs.Prelude.{Some, slice_get, slice_set, All}
use Rattle.std.proofs.lemmas.List.{length-append, length-map, length-set}
use Rattle.std.proofs.lemmas.List.Elements.{All-set, All-append, All-weaker}
use Rattle.kr_order.specs.declared.ids.ClientId.{ClientId}
use Rattle.kr_order.specs.declared.history.Entry.{Entry}
use Rattle.kr_order.specs.declared.message.Packet.{Packet}
use Rattle.kr_order.specs.Prefix.{IsPrefix}
use Rattle.kr_order.proofs.PrefixLemmas.{IsPrefix-refl, IsPrefix-trans}
use Rattle.kr_protocol.specs.Manager.{views_of}
use Rattle.kr_protocol.specs.Server.{Server, acknowledged}
use Rattle.kr_protocol.specs.Client.{Client}
use Rattle.kr_order.specs.Marks.{marked}
use Rattle.kr_world.specs.World.{World, with_packets}
use Rattle.kr_world.specs.Sound.{IsSound, IsSoundServer, IsSoundPacket, IsBelowPredecessor, most_packets}

-- with other clients, of no more calls than packets, and other marks beside the packets
same_sound :
    (world : World) (clients : List Client) (lost delivered : List Bool)
    → All (λ c. c.seq ≤ length world.bag) clients
    → length lost ≡ length world.bag
    → length delivered ≡ length world.bag
    → IsSound world
    → IsSound (record world { clients = clients; lost = lost; delivered = delivered })
same_sound world clients lost delivered calls losses deliveries sound =
    record {
      evolves = sound.evolves;
      made = sound.made;
      few = sound.few;
      served = sound.served;
      servers = sound.servers;
      last_holds = sound.last_holds;
      old_tails = sound.old_tails;
      need_covers = sound.need_covers;
      packets = sound.packets;
      calls = calls;
      bag = sound.bag;
      stopped = sound.stopped;
      lost = losses;
      delivered = deliveries;
    }

pub lost_sound : (world : World) (k : ℕ) → IsSound world → IsSound (record world { lost = marked world.lost k })
lost_sound world k sound =
    same_sound world world.clients (marked world.lost k) world.delivered sound.calls (length-set world.lost (k - 1) true ∙ sound.lost) sound.delivered sound

pub delivered_sound :
    (world : World) (k : ℕ)
    → IsSound world
    → IsSound (record world { delivered = marked world.delivered k })
delivered_sound world k sound =
    same_sound world world.clients world.lost (marked world.delivered k) sound.calls sound.lost (length-set world.delivered (k - 1) true ∙ sound.delivered) sound

-- as many marks come as packets
pub marks_more :
    (marks : List Bool) (bag packets : List Packet)
    → length marks ≡ length bag
    → length (marks ++ map (λ packet. false) packets) ≡ length (bag ++ packets)
marks_more marks bag packets same =
    omega (arith, length-append marks (map (λ packet. false) packets), length-map packets (λ packet. false), length-append bag packets)

-- a longer bag bounds the calls too
pub calls_under :
    (clients : List Client) (m n : ℕ)
    → m ≤ n
    → All (λ c. c.seq ≤ m) clients
    → All (λ c. c.seq ≤ n) clients
calls_under clients m n le all = All-weaker (λ c. c.seq ≤ m) (λ c. c.seq ≤ n) (λ c h. omega arith) clients all

-- a server that has no part in a step stays sound, where it has still no more than the server before it
pub other_later :
    (world : World) (servers : List Server) (history : List Entry) (packets i : ℕ) (server : Server)
    → IsSound world
    → slice_get world.servers i ≡ Some server
    → length world.bag ≤ packets
    → IsPrefix world.history history
    → IsBelowPredecessor servers server
    → IsSoundServer (views_of world.manager) servers history packets i server
other_later world servers history packets i server sound there le front below =
    let own = sound.servers i server there in
    let entries = own.entries in
    record {
      id = own.id;
      own_view = own.own_view;
      done = own.done;
      fed = own.fed;
      below = below;
      agreed = IsPrefix-trans (acknowledged server) world.history history own.agreed front;
      full = own.full;
      waiting = own.waiting;
      entries = omega arith;
    }

pub packets_sound :
    (world : World) (packets : List Packet)
    → All (IsSoundPacket (views_of world.manager) world.servers) packets
    → length world.bag + length packets ≤ most_packets
    → IsSound world
    → IsSound (with_packets world packets)
packets_sound world packets said room sound =
    let bag = world.bag ++ packets in
    let longer : length bag ≡ length world.bag + length packets = length-append world.bag packets in
    let under : length world.bag ≤ length bag = omega arith in
    record {
      evolves = sound.evolves;
      made = sound.made;
      few = sound.few;
      served = sound.served;
      servers = λ i server there. other_later world world.servers world.history (length bag) i server sound there under (IsPrefix-refl world.history) (sound.servers i server there).below;
      last_holds = sound.last_holds;
      old_tails = sound.old_tails;
      need_covers = sound.need_covers;
      packets = All-append (IsSoundPacket (views_of world.manager) world.servers) world.bag packets sound.packets said;
      calls = calls_under world.clients (length world.bag) (length bag) under sound.calls;
      bag = omega arith;
      stopped = sound.stopped;
      lost = marks_more world.lost world.bag packets sound.lost;
      delivered = marks_more world.delivered world.bag packets sound.delivered;
    }

-- so it does when a client has become another, of no more calls than packets
pub client_sound :
    (world : World) (id : ClientId) (after : Client)
    → after.seq ≤ length world.bag
    → IsSound world
    → IsSound (record world { clients = slice_set world.clients (id.0 - 1) after })
client_sound world id after seq sound =
    let clients = slice_set world.clients (id.0 - 1) after in
    same_sound world clients world.lost world.delivered (All-set (λ c. c.seq ≤ length world.bag) world.clients (id.0 - 1) after seq sound.calls) sound.lost sound.delivered sound
