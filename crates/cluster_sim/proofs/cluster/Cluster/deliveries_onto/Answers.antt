use Rattle.std.proofs.Common.{sym, ◌∙◌, subst}
use Rattle.std.specs.Prelude.{All}
use Rattle.kr_world.specs.Round.{IsOfRound}
use Rattle.kr_world.proofs.rounds.RoundShapeLemmas.{deliveries_of_round}
use Rattle.cluster_sim.proofs.cluster.Cluster.deliveries_onto.Goals as goal

pub all_onto-requires-clause-kinds : goal.all_onto-requires-clause-kinds
all_onto-requires-clause-kinds g c = λ lifetimes bounds.
    subst (All IsOfRound) (sym (c.as_slice.ensures.value ∙ c.in_ok-events.ensures.events)) (deliveries_of_round c.args.self.now.world)
