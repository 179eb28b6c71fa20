use Rattle.std.proofs.Common.{◌≡◌}
use Rattle.live_chain.specs.Nodes.{HasRoom, IsSameNode}
use Rattle.live_chain.proofs.node.Node.drain.Given as goal

abbrev pub invariant-loop : goal.invariant-loop
invariant-loop g l = record {
  room : HasRoom l.self;
  same : IsSameNode l.initial.self l.self;
  failed : l.self.failed ≡ l.initial.self.failed;
}
