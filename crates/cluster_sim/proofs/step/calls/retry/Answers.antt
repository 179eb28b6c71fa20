use Rattle.std.proofs.Common.{◌≡◌, ◌-◌, length, get_or, refl, sym, ap, ◌∙◌, subst, arith}
use Rattle.std.proofs.lemmas.Option.{slice_get_read}
use Rattle.kr_world.specs.World.{client_at, server_at}
use Rattle.kr_world.specs.Step.{client_retries}
use Rattle.cluster_parts.specs.PartsStanding.{world_of}
use Rattle.cluster_sim.specs.Parts.{Makes}
use Rattle.cluster_sim.proofs.PartsLemmas.{retrier_there, client_retried}
use Rattle.cluster_sim.proofs.FitLemmas.{retry_fits}
use Rattle.cluster_sim.proofs.step.calls.retry.Goals as goal

pub send-requires : goal.send-requires
send-requires c =
    let parts = c.args.parts.now in
    let nodes = parts.clients.items in
    let i = c.args.client.0 - 1 in
    let node = c.index.result.now in
    let at : c.index_of-i.result ≡ i = omega (arith, c.index_of-i.ensures, c.from.ensures) in
    let within = retrier_there parts c.args.client c.args.server (client_at (world_of parts) c.args.client) (server_at (world_of parts) c.args.server) refl c.requires.free in
    let there = slice_get_read nodes (length nodes) i node refl within (c.index.ensures ∙ ap (λ n. get_or nodes n node) at) in
    retry_fits parts c.args.client c.args.server node c.in-Ok.packet there c.in-Ok.ensures c.requires.fit

pub returns-in_ok-send-in-Ok : goal.returns-in_ok-send-in-Ok
returns-in_ok-send-in-Ok c =
    let parts = c.args.parts.now in
    let nodes = c.args.parts.now.clients.items in
    let i = c.args.client.0 - 1 in
    let node = c.index.result.now in
    let at : c.index_of-i.result ≡ i = omega (arith, c.index_of-i.ensures, c.from.ensures) in
    let within = retrier_there parts c.args.client c.args.server (client_at (world_of parts) c.args.client) (server_at (world_of parts) c.args.server) refl c.requires.free in
    let there = slice_get_read nodes (length nodes) i node refl within (c.index.ensures ∙ ap (λ n. get_or nodes n node) at) in
    let made = client_retried parts c.send.new.self c.args.client c.args.server node c.in-Ok.packet c.requires.whole there c.in-Ok.ensures.sent c.in_ok-send-in-Ok.ensures in
    subst (λ noting. Makes (client_retries (world_of parts) c.args.server (client_at (world_of parts) c.args.client)) parts.bag.before (record parts { bag = c.send.new.self }) noting) (sym c.nothing.ensures) made
