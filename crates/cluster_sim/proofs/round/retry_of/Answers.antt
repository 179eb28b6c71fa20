use Rattle.std.proofs.Common.{true, false, ap, ◌∙◌}
use Rattle.kr_order.specs.declared.view.View.{View}
use Rattle.kr_protocol.specs.Client.{learns}
use Rattle.kr_world.specs.Round.{aim}
use Rattle.cluster_sim.proofs.RoundLemmas.{retry_is}
use Rattle.cluster_sim.proofs.round.retry_of.Goals as goal

pub returns-then-tries : goal.returns-then-tries
returns-then-tries c =
    let client = c.index-client.result.now in
    retry_is c.args.parts.now c.args.i client c.aim-server.result c.tries.result true c.requires.within c.index-client.ensures (c.aim-server.ensures ∙ ap (λ (v : View). aim (learns client.client v)) c.current.ensures) c.tries.ensures c.if-tries.true

pub returns-else-tries : goal.returns-else-tries
returns-else-tries c =
    let client = c.index-client.result.now in
    retry_is c.args.parts.now c.args.i client c.aim-server.result c.tries.result false c.requires.within c.index-client.ensures (c.aim-server.ensures ∙ ap (λ (v : View). aim (learns client.client v)) c.current.ensures) c.tries.ensures c.if-tries.false
