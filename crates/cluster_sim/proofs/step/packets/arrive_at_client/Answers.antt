use Rattle.std.proofs.Common.{◌≡◌, ◌-◌, ◌<◌, length, get_or, refl, ap, ◌∙◌, arith}
use Rattle.std.specs.Prelude.{slice_set}
use Rattle.std.specs.Vec.{with_item}
use Rattle.std.proofs.lemmas.Option.{slice_get_read}
use Rattle.kr_world.specs.World.{client_at}
use Rattle.kr_world.specs.Step.{arrives_at_client}
use Rattle.cluster_parts.specs.BagStanding.{IsSent}
use Rattle.cluster_parts.specs.PartsStanding.{world_of}
use Rattle.cluster_sim.specs.Parts.{IsNotedOf, Makes}
use Rattle.cluster_sim.proofs.PartsLemmas.{client_heard, noted_so}
use Rattle.cluster_sim.proofs.FitLemmas.{heard_fits}
use Rattle.cluster_sim.proofs.step.packets.arrive_at_client.Goals as goal

pub hear-requires : goal.hear-requires
hear-requires c =
    let parts = c.args.parts.now in
    let nodes = parts.clients.items in
    let client = c.args.client in
    let i = client.0 - 1 in
    let node = c.index_mut.result.now in
    let at : c.index_of-i.result ≡ i = omega (arith, c.index_of-i.ensures, c.from.ensures) in
    let within : i < length nodes = omega (arith, at) in
    let there = slice_get_read nodes (length nodes) i node refl within (c.index_mut.ensures.value ∙ ap (λ n. get_or nodes n node) at) in
    heard_fits parts client node c.take.new.self c.args.packet.now c.in_ok-heard.heard there c.in_ok-heard.ensures c.requires.fit

pub returns : goal.returns
returns c =
    let parts = c.args.parts.now in
    let nodes = parts.clients.items in
    let client = c.args.client in
    let packet = c.args.packet.now in
    let i = client.0 - 1 in
    let node = c.index_mut.result.now in
    let at : c.index_of-i.result ≡ i = omega (arith, c.index_of-i.ensures, c.from.ensures) in
    let within : i < length nodes = omega (arith, at) in
    let there = slice_get_read nodes (length nodes) i node refl within (c.index_mut.ensures.value ∙ ap (λ n. get_or nodes n node) at) in
    let clients = with_item parts.clients c.index_of-i.result c.take.new.self in
    let changed : clients.items ≡ slice_set nodes i c.take.new.self = ap (λ n. slice_set nodes n c.take.new.self) at in
    let bag = c.hear.new.bag in
    let heard = c.in_ok-heard.heard in
    noted_so c.hear.result (IsSent parts.bag bag heard.packets) (IsNotedOf client heard) (Makes (arrives_at_client (world_of parts) client packet (client_at (world_of parts) client)) parts.bag.before (record parts { clients = clients; bag = bag })) c.hear.ensures.sent c.hear.ensures.noted (λ noting sent notes. client_heard parts clients bag client node c.take.new.self packet heard noting c.requires.whole there changed c.in_ok-heard.ensures sent notes)
