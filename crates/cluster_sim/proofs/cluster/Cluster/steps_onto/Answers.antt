use Rattle.std.proofs.Common.{◌-◌, ◌^◌, sym, ◌∙◌, subst}
use Rattle.std.specs.Prelude.{All}
use Rattle.kr_world.specs.Sound.{HaveBegun}
use Rattle.kr_world.specs.Round.{round_calls, delivery_events, IsOfRound}
use Rattle.kr_world.proofs.rounds.RoundShapeLemmas.{calls_of_round, deliveries_of_round, works_of_round}
use Rattle.cluster_sim.specs.ClusterStanding.{ClusterStanding}
use Rattle.cluster_sim.proofs.ClusterLemmas.{still_whole, begun_still, does_round}
use Rattle.cluster_sim.proofs.cluster.Cluster.steps_onto.Goals as goal

pub deliveries_onto-requires-clause-few : goal.deliveries_onto-requires-clause-few
deliveries_onto-requires-clause-few g c = λ lifetimes bounds.
    let first = c.works.new.self in
    let few = subst (λ (s : ClusterStanding). HaveBegun (2 ^ 63 - 1) s.world.clients) (sym c.in_ok-works.ensures.same) c.requires.few in
    begun_still (2 ^ 63 - 1) first c.calls_onto.new.self (round_calls first.world) c.args.lines.now.items c.calls_onto.new.lines.items c.in_ok-calls_onto.ensures (calls_of_round first.world) few

pub deliveries_onto-requires-clause-whole : goal.deliveries_onto-requires-clause-whole
deliveries_onto-requires-clause-whole g c = λ lifetimes bounds.
    let first = c.works.new.self in
    still_whole first c.calls_onto.new.self (round_calls first.world) c.args.lines.now.items c.calls_onto.new.lines.items c.in_ok-calls_onto.ensures

pub all_onto-requires-clause-kinds : goal.all_onto-requires-clause-kinds
all_onto-requires-clause-kinds g c = λ lifetimes bounds.
    subst (All IsOfRound) (sym (c.as_slice.ensures.value ∙ c.in_ok-works.ensures.events)) (works_of_round c.args.self.now.world)

pub all_onto-requires-clause-few : goal.all_onto-requires-clause-few
all_onto-requires-clause-few g c = λ lifetimes bounds.
    let first = c.works.new.self in
    let mid = c.calls_onto.new.self in
    let few = subst (λ (s : ClusterStanding). HaveBegun (2 ^ 63 - 1) s.world.clients) (sym c.in_ok-works.ensures.same) c.requires.few in
    let still = begun_still (2 ^ 63 - 1) first mid (round_calls first.world) c.args.lines.now.items c.calls_onto.new.lines.items c.in_ok-calls_onto.ensures (calls_of_round first.world) few in
    begun_still (2 ^ 63 - 1) mid c.deliveries_onto.new.self (delivery_events mid.world) c.calls_onto.new.lines.items c.deliveries_onto.new.lines.items c.in_ok-deliveries_onto.ensures (deliveries_of_round mid.world) still

pub all_onto-requires-clause-whole : goal.all_onto-requires-clause-whole
all_onto-requires-clause-whole g c = λ lifetimes bounds.
    let mid = c.calls_onto.new.self in
    still_whole mid c.deliveries_onto.new.self (delivery_events mid.world) c.calls_onto.new.lines.items c.deliveries_onto.new.lines.items c.in_ok-deliveries_onto.ensures

pub returns : goal.returns
returns g c =
    does_round c.works.new.self c.args.self.now c.calls_onto.new.self c.deliveries_onto.new.self c.all_onto.new.self c.as_slice.result.now c.args.lines.now.items c.calls_onto.new.lines.items c.deliveries_onto.new.lines.items c.all_onto.new.lines.items c.all_onto.result c.in_ok-works.ensures.same c.in_ok-calls_onto.ensures c.in_ok-deliveries_onto.ensures (c.as_slice.ensures.value ∙ c.in_ok-works.ensures.events) c.all_onto.ensures
