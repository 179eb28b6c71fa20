use Rattle.std.proofs.Common.{◌≡◌, ◌+◌, ap, ◌∙◌, arith}
use Rattle.kr_order.specs.History.{born_in}
use Rattle.order_state.specs.Standing.{Standing}
use Rattle.order_state.proofs.StateLemmas.{born_in-le}
use Rattle.order_state.proofs.state.State.next_event.Goals as goal

pub overflow_add-result : goal.overflow_add-result
overflow_add-result c =
    let entries = c.self.inside.entries in
    let born : c.born.result ≡ born_in entries.items = c.born.ensures ∙ c.self.invariant.order.born in
    omega (arith, born_in-le entries.items, born, entries.ok.0, entries.ok.1, entries.small)

pub returns : goal.returns
returns c =
    ap (λ n. n + 1) (c.born.ensures ∙ c.self.invariant.order.born ∙ ap (λ (s : Standing). born_in s.history) c.self.view_is)
