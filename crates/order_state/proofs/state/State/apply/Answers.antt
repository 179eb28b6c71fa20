use Rattle.std.proofs.Common.{◌≡◌, ◌++◌, length, ap, sym, ◌∙◌, subst, arith}
use Rattle.std.proofs.lemmas.Result.{IfOk-at_ok}
use Rattle.kr_order.specs.Agreed.{pairs_after, agreed_of}
use Rattle.kr_order.specs.Done.{done_after}
use Rattle.kr_order.specs.Pairs.{pairs_of}
use Rattle.order_state.specs.Decision.{adds_of}
use Rattle.order_state.specs.Kept.{kept_of}
use Rattle.order_state.specs.Standing.{Standing}
use Rattle.order_state.proofs.StateLemmas.{born_in-le, CanCountOn-history, IsKeptOf-push}
use Rattle.order_state.proofs.TellLemmas.{adds-held}
use Rattle.order_state.proofs.state.State.apply.Goals as goal

pub invariant_of-self : goal.invariant_of-self
invariant_of-self c =
    let prepared = c.args.prepared in
    let kept = c.requires.ready.kept ∙ ap (λ (s : Standing). kept_of (done_after s.history prepared.entry)) (sym c.self.view_is) in
    rw c.push_reserved.ensures.items (IsKeptOf-push _ _ _ _ _ prepared.entry _ c.self.invariant kept c.apply.ensures.becomes (IfOk-at_ok _ c.unwrap.ensures c.insert-inserted.ensures.updates))

pub apply-requires-clause-few : goal.apply-requires-clause-few
apply-requires-clause-few c =
    let entries = c.self.inside.entries in
    let size : length entries.items ≡ length c.args.self.now.history = ap (λ (s : Standing). length s.history) c.self.view_is in
    omega (arith, born_in-le entries.items, c.self.invariant.order.born, size, c.requires.count)

pub apply-requires-clause-counts : goal.apply-requires-clause-counts
apply-requires-clause-counts c =
    let entries = c.self.inside.entries in
    let size : length entries.items ≡ length c.args.self.now.history = ap (λ (s : Standing). length s.history) c.self.view_is in
    CanCountOn-history entries.items c.self.inside.order c.self.invariant.order (omega (arith, size, c.requires.count))

pub apply-requires-clause-adds : goal.apply-requires-clause-adds
apply-requires-clause-adds c =
    let prepared = c.args.prepared in
    adds-held c.self.inside.entries.items c.self.inside.order prepared.entry.command (adds_of prepared.plan) c.self.invariant.order (subst (λ (s : Standing). pairs_after prepared.entry.command (agreed_of s.history) ≡ pairs_of s.history ++ adds_of prepared.plan) (sym c.self.view_is) c.requires.ready.adds)
