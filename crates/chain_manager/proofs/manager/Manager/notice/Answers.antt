use Rattle.std.proofs.Common.{◌≡◌, true, sym, ap, subst, ◌∙◌}
use Rattle.kr_order.specs.View.{names}
use Rattle.kr_protocol.specs.Manager.{Manager, without}
use Rattle.chain_manager.specs.Bounds.{IsBounded}
use Rattle.chain_manager.proofs.BoundLemmas.{without_bounded}
use Rattle.chain_manager.proofs.manager.Manager.notice.Goals as goal

-- src/manager.rt:186:20
pub go_to-requires : goal.go_to-requires
go_to-requires c =
    let same : c.self.inside.current ≡ c.go_to.inside.current = ap (λ (m : Manager). m.current) (c.self.view_is ∙ sym c.go_to.view_is) in
    let named : names c.self.inside.current c.args.id ≡ true = sym c.if-not-names.ensures in
    let is : c.in_ok-view.view ≡ without c.go_to.inside.current c.args.id = c.in_ok-view.ensures ∙ ap (λ view. without view c.args.id) same in
    record {
      bounded = subst (λ view. IsBounded view c.go_to.inside.made) (sym is) (without_bounded c.go_to.inside.current c.go_to.inside.made c.args.id (sym (ap (λ view. names view c.args.id) same) ∙ named) c.go_to.invariant);
    }
