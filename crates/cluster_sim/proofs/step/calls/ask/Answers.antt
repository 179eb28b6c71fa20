use Rattle.std.proofs.Common.{◌≡◌, ◌-◌, length, get_or, refl, ap, ◌∙◌, arith}
use Rattle.std.specs.Prelude.{slice_set}
use Rattle.std.specs.Vec.{with_item}
use Rattle.std.proofs.lemmas.Option.{slice_get_read}
use Rattle.kr_world.specs.World.{client_at, server_at}
use Rattle.kr_world.specs.Step.{client_asks}
use Rattle.cluster_parts.specs.PartsStanding.{world_of}
use Rattle.cluster_sim.specs.Parts.{IsNotedOf, Makes}
use Rattle.cluster_parts.specs.BagStanding.{IsSent}
use Rattle.cluster_sim.proofs.PartsLemmas.{asker_there, client_asked, noted_so}
use Rattle.cluster_sim.proofs.FitLemmas.{question_fits}
use Rattle.cluster_sim.proofs.step.calls.ask.Goals as goal

pub hear-requires : goal.hear-requires
hear-requires c =
    let parts = c.args.parts.now in
    let nodes = parts.clients.items in
    let i = c.args.client.0 - 1 in
    let node = c.index_mut-node.result.now in
    let at : c.index_of-i.result ≡ i = omega (arith, c.index_of-i.ensures, c.from.ensures) in
    let within = asker_there parts c.args.client c.args.server (client_at (world_of parts) c.args.client) (server_at (world_of parts) c.args.server) refl c.requires.free in
    let there = slice_get_read nodes (length nodes) i node refl within (c.index_mut-node.ensures.value ∙ ap (λ n. get_or nodes n node) at) in
    question_fits parts c.args.client c.args.server c.args.pairs.now node c.ask.new.self c.in-Ok.heard there c.in-Ok.ensures c.requires.fit

pub returns-in-Ok : goal.returns-in-Ok
returns-in-Ok c =
    let parts = c.args.parts.now in
    let nodes = parts.clients.items in
    let client = c.args.client in
    let i = client.0 - 1 in
    let node = c.index_mut-node.result.now in
    let at : c.index_of-i.result ≡ i = omega (arith, c.index_of-i.ensures, c.from.ensures) in
    let within = asker_there parts client c.args.server (client_at (world_of parts) client) (server_at (world_of parts) c.args.server) refl c.requires.free in
    let there = slice_get_read nodes (length nodes) i node refl within (c.index_mut-node.ensures.value ∙ ap (λ n. get_or nodes n node) at) in
    let clients = with_item parts.clients c.index_of-i.result c.ask.new.self in
    let changed : clients.items ≡ slice_set nodes i c.ask.new.self = ap (λ n. slice_set nodes n c.ask.new.self) at in
    let bag = c.hear.new.bag in
    noted_so c.hear.result (IsSent parts.bag bag c.in-Ok.heard.packets) (IsNotedOf client c.in-Ok.heard) (Makes (client_asks (world_of parts) client c.args.server c.args.pairs.now (client_at (world_of parts) client)) parts.bag.before (record parts { clients = clients; bag = bag })) c.hear.ensures.sent c.hear.ensures.noted (λ noting sent notes. client_asked parts clients bag client c.args.server c.args.pairs.now node c.ask.new.self c.in-Ok.heard noting c.requires.whole there changed c.in-Ok.ensures sent notes)
