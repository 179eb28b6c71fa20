use Rattle.std.proofs.Common.{map, ap, ◌∙◌, false}
use Rattle.kr_order.specs.Numbers.{numbers_to}
use Rattle.kr_protocol.specs.Manager.{Manager}
use Rattle.kr_protocol.specs.Server.{founder}
use Rattle.kr_protocol.specs.Client.{new_client}
use Rattle.kr_world.specs.World.{World}
use Rattle.cluster_parts.specs.declared.parts.Parts.{Parts}
use Rattle.cluster_sim.specs.ClusterStanding.{ClusterStanding}
use Rattle.cluster_sim.proofs.StartLemmas.{IsStart, started, started_ready}
use Rattle.cluster_sim.proofs.cluster.Cluster.new.Goals as goal

-- the parts that a cluster begins with
parts_of : goal.After-new-3 → Parts
parts_of c = record { manager = c.in_ok-manager.manager; servers = c.in_ok-nodes.nodes; stopped = c.in_ok-stopped.stopped; clients = c.in_ok-callers.callers; bag = c.new-2.result; journal = c.new-3.result }

start_of : (c : goal.After-new-3) → IsStart c.args.servers c.args.clients (parts_of c)
unfolding parts_of
start_of c = record {
  manager = c.in_ok-manager.ensures;
  marks = c.in_ok-stopped.ensures;
  nodes = c.in_ok-nodes.ensures ∙ ap (λ v. map (λ n. record { server = founder v (record { 0 = n }); failed = false }) (numbers_to c.args.servers)) (c.current.ensures ∙ ap (λ (m : Manager). m.current) c.in_ok-manager.ensures);
  callers = c.in_ok-callers.ensures ∙ ap (λ v. map (λ n. record { client = new_client v (record { 0 = n }); failed = false }) (numbers_to c.args.clients)) (c.current-2.ensures ∙ ap (λ (m : Manager). m.current) c.in_ok-manager.ensures);
  bag = c.new-2.ensures;
  journal = c.new-3.ensures;
}

pub invariant_of-result : goal.invariant_of-result
unfolding parts_of
invariant_of-result c = λ _. started_ready c.args.servers c.args.clients (parts_of c) c.requires (start_of c)

pub returns : goal.returns
unfolding parts_of
returns c =
    let f : World → ClusterStanding = λ w. record { world = w; failed = false; befores = 0 } in
    ap f (started c.args.servers c.args.clients (parts_of c) (start_of c))
