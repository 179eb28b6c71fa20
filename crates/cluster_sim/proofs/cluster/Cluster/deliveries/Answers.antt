use Rattle.cluster_sim.proofs.ClusterLemmas.{calm, deliveries_are_events}
use Rattle.cluster_sim.proofs.cluster.Cluster.deliveries.Goals as goal

pub returns-clause-fit : goal.returns-clause-fit
returns-clause-fit c =
    let inside = c.self.inside in
    let ready = c.self.invariant (calm c.args.self.now inside.parts inside.failed inside.befores c.self.view_is c.requires) in
    deliveries_are_events inside.parts inside.settled c.in_ok-events.events.items ready c.in_ok-events.ensures
