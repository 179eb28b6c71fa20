use Rattle.std.proofs.Common.{◌≡◌, ◌-◌, length, get_or, refl, sym, ap, ◌∙◌, subst, arith}
use Rattle.std.specs.Prelude.{slice_set, All}
use Rattle.std.specs.Vec.{with_item}
use Rattle.std.proofs.lemmas.Option.{slice_get_read}
use Rattle.kr_world.specs.World.{client_at}
use Rattle.kr_world.specs.Step.{client_calls}
use Rattle.kr_wire.specs.Valid.{IsPacket}
use Rattle.cluster_parts.specs.PartsStanding.{world_of}
use Rattle.cluster_sim.specs.Parts.{Makes}
use Rattle.cluster_sim.proofs.PartsLemmas.{nothing_noted, caller_there, client_called}
use Rattle.cluster_sim.proofs.FitLemmas.{call_fits}
use Rattle.cluster_sim.proofs.step.calls.call.Goals as goal

pub send-requires : goal.send-requires
send-requires c =
    let parts = c.args.parts.now in
    let nodes = parts.clients.items in
    let i = c.args.client.0 - 1 in
    let node = c.index_mut-node.result.now in
    let at : c.index_of-i.result ≡ i = omega (arith, c.index_of-i.ensures, c.from.ensures) in
    let within = caller_there parts c.args.client (client_at (world_of parts) c.args.client) refl c.requires.free in
    let there = slice_get_read nodes (length nodes) i node refl within (c.index_mut-node.ensures.value ∙ ap (λ n. get_or nodes n node) at) in
    let its = subst (λ command. All IsPacket (client_calls (world_of parts) c.args.client command (client_at (world_of parts) c.args.client)).after.bag) (sym c.in_ok-command.ensures) c.requires.fit in
    call_fits parts c.args.client c.in_ok-command.command node c.begin.new.self c.in-Ok.packet there c.in-Ok.ensures its

pub returns-in_ok-send-in-Ok : goal.returns-in_ok-send-in-Ok
returns-in_ok-send-in-Ok c =
    let parts = c.args.parts.now in
    let nodes = c.args.parts.now.clients.items in
    let i = c.args.client.0 - 1 in
    let node = c.index_mut-node.result.now in
    let at : c.index_of-i.result ≡ i = omega (arith, c.index_of-i.ensures, c.from.ensures) in
    let within = caller_there parts c.args.client (client_at (world_of parts) c.args.client) refl c.requires.free in
    let there = slice_get_read nodes (length nodes) i node refl within (c.index_mut-node.ensures.value ∙ ap (λ n. get_or nodes n node) at) in
    let clients = with_item c.args.parts.now.clients c.index_of-i.result c.begin.new.self in
    let changed : clients.items ≡ slice_set nodes i c.begin.new.self = ap (λ n. slice_set nodes n c.begin.new.self) at in
    let made = client_called parts clients c.send.new.self c.args.client c.in_ok-command.command node c.begin.new.self c.in-Ok.packet c.requires.whole there changed c.in-Ok.ensures c.in_ok-send-in-Ok.ensures in
    let its = subst (λ command. Makes (client_calls (world_of parts) c.args.client command (client_at (world_of parts) c.args.client)) parts.bag.before (record parts { clients = clients; bag = c.send.new.self }) nothing_noted) c.in_ok-command.ensures made in
    subst (λ noting. Makes (client_calls (world_of parts) c.args.client c.args.command.now (client_at (world_of parts) c.args.client)) parts.bag.before (record parts { clients = clients; bag = c.send.new.self }) noting) (sym c.nothing.ensures) its
