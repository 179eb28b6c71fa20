use Rattle.std.proofs.Common.{◌≡◌, [], ◌∷◌, ◌++◌, subst, sym, ap, ◌∙◌, false, true, ◌||◌}
use Rattle.std.proofs.lemmas.Bool.{ne_eqb}
use Rattle.kr_order.specs.declared.ids.EventId.{EventId}
use Rattle.kr_order.specs.Order.{reach}
use Rattle.kr_order.specs.Batch.{forbids}
use Rattle.reach.specs.Search.{numbered}
use Rattle.batch_assign.specs.Plan.{CanBeAdded, order_with}
use Rattle.reach.specs.Trails.{IsTrail}
use Rattle.reach.proofs.TrailLemmas.{IsTrail-more}
use Rattle.batch_assign.proofs.AddLemmas.{CanBeAdded-push, IsPrefix-order_with, forbids-said}
use Rattle.batch_assign.proofs.draft.add.Goals as goal

pub returns-then-reaches-clause-forbids : goal.returns-then-reaches-clause-forbids
returns-then-reaches-clause-forbids g c =
    let graph = c.args.graph.now in
    let pair = c.args.pair.now in
    let said : reach (order_with graph c.args.adds.now) pair.first.0 pair.second.0 ≡ true = ap (λ adds. reach (graph.pairs ++ numbered adds) pair.first.0 pair.second.0) (sym c.as_slice.ensures) ∙ sym c.reaches.ensures.value ∙ c.if-reaches.true in
    sym (forbids-said graph c.args.adds.now pair c.recall_graph.ensures.acyclic c.requires.adds (ne_eqb pair.first.0 pair.second.0 c.if-pair.false) said)

pub returns-clause-adds : goal.returns-clause-adds
returns-clause-adds g c =
    let graph = c.args.graph.now in
    let pair = c.args.pair.now in
    let unsaid : reach (order_with graph c.args.adds.now) pair.first.0 pair.second.0 ≡ false = ap (λ adds. reach (graph.pairs ++ numbered adds) pair.first.0 pair.second.0) (sym c.as_slice.ensures) ∙ sym c.reaches.ensures.value ∙ c.if-reaches.false in
    let not_back : reach (order_with graph c.args.adds.now) pair.second.0 pair.first.0 ≡ false = ap (λ adds. reach (graph.pairs ++ numbered adds) pair.second.0 pair.first.0) (sym c.as_slice-2.ensures) ∙ sym c.reaches-2.ensures.value ∙ c.if-reaches-2.false in
    let allowed : forbids (order_with graph c.args.adds.now) pair ≡ false = ap (λ test. test || reach (order_with graph c.args.adds.now) pair.second.0 pair.first.0) (ne_eqb pair.first.0 pair.second.0 c.if-pair.false) ∙ not_back in
    subst (CanBeAdded graph) (sym c.in_ok-push.ensures.ok) (CanBeAdded-push graph c.args.adds.now pair c.requires.pair c.requires.adds allowed unsaid)

pub returns-clause-trail : goal.returns-clause-trail
returns-clause-trail g c =
    let graph = c.args.graph.now in
    let adds = c.args.adds.now in
    let pair : EventId × EventId = (c.args.pair.now.first, c.args.pair.now.second) in
    let kept : IsTrail graph (order_with graph adds) c.reaches-2.new.self = subst (λ these. IsTrail graph (order_with graph these) c.reaches-2.new.self) c.as_slice-2.ensures c.reaches-2.ensures.trail in
    subst (λ these. IsTrail graph (order_with graph these) c.reaches-2.new.self) (sym c.in_ok-push.ensures.ok) (IsTrail-more graph (order_with graph adds) (order_with graph (adds ++ pair ∷ [])) c.reaches-2.new.self (IsPrefix-order_with graph adds pair) kept)
