use Rattle.std.proofs.Common.{◌≡◌, ◌-◌, length, get_or, false, refl, sym, ap, ◌∙◌, subst, arith}
use Rattle.std.specs.Prelude.{slice_set}
use Rattle.std.specs.Vec.{with_item}
use Rattle.std.proofs.lemmas.Option.{slice_get_read}
use Rattle.kr_protocol.specs.Client.{learns}
use Rattle.kr_world.specs.World.{client_at}
use Rattle.kr_world.specs.Step.{learns_view}
use Rattle.cluster_parts.specs.PartsStanding.{world_of}
use Rattle.cluster_sim.specs.Parts.{Makes}
use Rattle.cluster_sim.proofs.ViewLemmas.{client_learnt, learner_there}
use Rattle.cluster_sim.proofs.step.views.learn.Goals as goal

pub returns : goal.returns
returns c =
    let parts = c.args.parts.now in
    let nodes = parts.clients.items in
    let client = c.args.client in
    let i = client.0 - 1 in
    let node = c.index_mut.result.now in
    let at : c.index_of-i.result ≡ i = omega (arith, c.index_of-i.ensures, c.from.ensures) in
    let within = learner_there parts client (client_at (world_of parts) client) refl c.requires.free in
    let there = slice_get_read nodes (length nodes) i node refl within (c.index_mut.ensures.value ∙ ap (λ n. get_or nodes n node) at) in
    let clients = with_item parts.clients c.index_of-i.result c.learn.new.self in
    let changed : clients.items ≡ slice_set nodes i c.learn.new.self = ap (λ n. slice_set nodes n c.learn.new.self) at in
    let learnt = c.in_ok-learn.ensures.ok ∙ ap (λ view. record { client = learns node.client view; failed = false }) c.current.ensures in
    let made = client_learnt parts clients client node c.learn.new.self c.requires.whole there changed learnt in
    subst (λ noting. Makes (learns_view (world_of parts) client (client_at (world_of parts) client)) parts.bag.before (record parts { clients = clients }) noting) (sym c.nothing.ensures) made
