use Rattle.std.proofs.Common.{refl}
use Rattle.kr_order.specs.declared.message.Node.TheVariants.{Manager, Client, Server}
use Rattle.kr_world.specs.World.{packet_at}
use Rattle.cluster_parts.specs.PartsStanding.{world_of}
use Rattle.cluster_sim.proofs.PartsLemmas.{delivered_whole, delivered_there, delivers_so, delivers_fit, delivers_sound, delivers_to}
use Rattle.cluster_sim.proofs.step.packets.deliver.Goals as goal

pub packet-requires : goal.packet-requires
packet-requires c =
    delivered_there c.args.parts.now c.args.k (packet_at (world_of c.args.parts.now) c.args.k) c.requires.first refl c.requires.free

pub mark_delivered-requires : goal.mark_delivered-requires
mark_delivered-requires c =
    delivered_there c.args.parts.now c.args.k (packet_at (world_of c.args.parts.now) c.args.k) c.requires.first refl c.requires.free

pub arrive_at_manager-requires-clause-whole : goal.arrive_at_manager-requires-clause-whole
arrive_at_manager-requires-clause-whole c =
    delivered_whole c.args.parts.now c.mark_delivered.new.self c.args.k c.requires.whole c.mark_delivered.ensures

pub arrive_at_manager-requires-clause-said : goal.arrive_at_manager-requires-clause-said
arrive_at_manager-requires-clause-said c =
    delivers_sound c.args.parts.now c.mark_delivered.new.self c.args.k c.in_ok-packet.packet c.requires.whole c.in_ok-packet.ensures

pub arrive_at_manager-requires-clause-fit : goal.arrive_at_manager-requires-clause-fit
arrive_at_manager-requires-clause-fit c =
    delivers_fit c.args.parts.now c.mark_delivered.new.self c.args.k c.in_ok-packet.packet Manager c.in_ok-packet.ensures c.in-Manager.is c.mark_delivered.ensures c.requires.fit

pub returns-in-Manager : goal.returns-in-Manager
returns-in-Manager c =
    delivers_so c.args.parts.now c.arrive_at_manager.new.parts c.mark_delivered.new.self c.args.k c.in_ok-packet.packet Manager c.arrive_at_manager.result c.in_ok-packet.ensures c.in-Manager.is c.mark_delivered.ensures c.arrive_at_manager.ensures

pub arrive_at_client-requires-clause-whole : goal.arrive_at_client-requires-clause-whole
arrive_at_client-requires-clause-whole c =
    delivered_whole c.args.parts.now c.mark_delivered.new.self c.args.k c.requires.whole c.mark_delivered.ensures

pub arrive_at_client-requires-clause-fit : goal.arrive_at_client-requires-clause-fit
arrive_at_client-requires-clause-fit c =
    delivers_fit c.args.parts.now c.mark_delivered.new.self c.args.k c.in_ok-packet.packet (Client c.in-Client.client) c.in_ok-packet.ensures c.in-Client.is c.mark_delivered.ensures c.requires.fit

pub returns-in-Client : goal.returns-in-Client
returns-in-Client c =
    delivers_so c.args.parts.now c.arrive_at_client.new.parts c.mark_delivered.new.self c.args.k c.in_ok-packet.packet (Client c.in-Client.client) c.arrive_at_client.result c.in_ok-packet.ensures c.in-Client.is c.mark_delivered.ensures c.arrive_at_client.ensures

pub arrive_at_server-requires-clause-whole : goal.arrive_at_server-requires-clause-whole
arrive_at_server-requires-clause-whole c =
    delivered_whole c.args.parts.now c.mark_delivered.new.self c.args.k c.requires.whole c.mark_delivered.ensures

pub arrive_at_server-requires-clause-said : goal.arrive_at_server-requires-clause-said
arrive_at_server-requires-clause-said c =
    delivers_sound c.args.parts.now c.mark_delivered.new.self c.args.k c.in_ok-packet.packet c.requires.whole c.in_ok-packet.ensures

pub arrive_at_server-requires-clause-runs : goal.arrive_at_server-requires-clause-runs
arrive_at_server-requires-clause-runs c =
    delivers_to c.args.parts.now c.mark_delivered.new.self c.args.k c.in_ok-packet.packet c.in-Server.server c.in_ok-packet.ensures c.in-Server.is c.requires.free

pub arrive_at_server-requires-clause-fit : goal.arrive_at_server-requires-clause-fit
arrive_at_server-requires-clause-fit c =
    delivers_fit c.args.parts.now c.mark_delivered.new.self c.args.k c.in_ok-packet.packet (Server c.in-Server.server) c.in_ok-packet.ensures c.in-Server.is c.mark_delivered.ensures c.requires.fit

pub returns : goal.returns
returns c =
    delivers_so c.args.parts.now c.arrive_at_server.new.parts c.mark_delivered.new.self c.args.k c.in_ok-packet.packet (Server c.in-Server.server) c.arrive_at_server.result c.in_ok-packet.ensures c.in-Server.is c.mark_delivered.ensures c.arrive_at_server.ensures
