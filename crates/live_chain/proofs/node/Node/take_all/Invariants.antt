use Rattle.live_chain.specs.Nodes.{IsAt, IsSameNode}
use Rattle.live_chain.proofs.node.Node.take_all.Given as goal

abbrev pub invariant-loop : goal.invariant-loop
invariant-loop g l = record {
  at : IsAt l.self;
  same : IsSameNode l.initial.self l.self;
}
