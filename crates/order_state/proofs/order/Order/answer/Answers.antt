use Rattle.std.proofs.Common.{◌≡◌, true, sym, subst, ◌∙◌}
use Rattle.std.proofs.lemmas.Bool.{and_parts}
use Rattle.kr_order.specs.Agreed.{is_live, both_live}
use Rattle.order_state.specs.Ordered.{Ordered, agreed_in}
use Rattle.order_state.proofs.OrderLemmas.{agreed_by, is_held-live}
use Rattle.order_state.proofs.order.Order.answer.Goals as goal

pub answer_over-requires-clause-a : goal.answer_over-requires-clause-a
answer_over-requires-clause-a g c =
    let inside = c.self.inside in
    let agreed = agreed_by inside.refs.born inside.refs.counts inside.graph.pairs in
    let live : both_live agreed c.args.a.0 c.args.b.0 ≡ true = subst (λ (o : Ordered). both_live (agreed_in o) c.args.a.0 c.args.b.0 ≡ true) (sym c.self.view_is) (sym c.are_live.ensures ∙ c.if-not-are_live.false) in
    is_held-live inside.refs.born inside.refs.counts inside.graph c.args.a.0 c.self.invariant (and_parts (is_live agreed c.args.a.0) (is_live agreed c.args.b.0) live).0

pub answer_over-requires-clause-b : goal.answer_over-requires-clause-b
answer_over-requires-clause-b g c =
    let inside = c.self.inside in
    let agreed = agreed_by inside.refs.born inside.refs.counts inside.graph.pairs in
    let live : both_live agreed c.args.a.0 c.args.b.0 ≡ true = subst (λ (o : Ordered). both_live (agreed_in o) c.args.a.0 c.args.b.0 ≡ true) (sym c.self.view_is) (sym c.are_live.ensures ∙ c.if-not-are_live.false) in
    is_held-live inside.refs.born inside.refs.counts inside.graph c.args.b.0 c.self.invariant (and_parts (is_live agreed c.args.a.0) (is_live agreed c.args.b.0) live).1
