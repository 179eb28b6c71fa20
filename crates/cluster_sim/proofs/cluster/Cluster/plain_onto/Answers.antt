use Rattle.std.proofs.Common.{◌+◌, ◌-◌, ◌^◌, ◌∙◌, min, ap, sym, subst}
use Rattle.kr_world.specs.Sound.{HaveBegun}
use Rattle.cluster_sim.specs.ClusterStanding.{ClusterStanding}
use Rattle.cluster_sim.proofs.PartsLemmas.{begun_ready, ready_after}
use Rattle.cluster_sim.proofs.ClusterLemmas.{does_step}
use Rattle.cluster_sim.proofs.cluster.Cluster.plain_onto.Goals as goal

pub step-requires-clause-rest : goal.step-requires-clause-rest
step-requires-clause-rest g c = λ lifetimes bounds.
    (begun_ready c.self.inside.parts c.begin.new.self c.self.inside.settled c.begin.ensures (c.self.invariant c.if-self.false)).rest

pub invariant_of-self-2 : goal.invariant_of-self-2
invariant_of-self-2 g c = λ _.
    let inside = c.self.inside in
    let bag = c.begin.new.self in
    let ready = begun_ready inside.parts bag inside.settled c.begin.ensures (c.self.invariant c.if-self.false) in
    let few = subst (λ (s : ClusterStanding). HaveBegun (2 ^ 63 - 1) s.world.clients) (sym c.self.view_is) c.requires.few in
    ready_after (record inside.parts { bag = bag }) c.step.new.parts inside.settled c.args.event.now bag.before c.in_ok-noted.noted ready few c.requires.event c.in_ok-noted.ensures.ok

pub returns : goal.returns
returns g c =
    let inside = c.self.inside in
    does_step c.args.self.now inside.parts c.step.new.parts inside.failed inside.befores c.begin.new.self c.args.event.now c.in_ok-noted.noted c.len-entries.result c.args.lines.now.items c.put_step.new.out.items c.saturating_add-self-inside.result c.self.view_is c.if-self.false c.begin.ensures c.len-entries.ensures c.in_ok-noted.ensures.ok c.in_ok-put_step.ensures (c.saturating_add-self-inside.ensures ∙ ap (λ n. min (inside.befores + n) 18446744073709551615) c.befores.ensures)
