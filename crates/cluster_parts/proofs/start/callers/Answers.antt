use Rattle.std.proofs.Common.{◌≡◌, ℕ, ◌+◌, ◌++◌, ◌∷◌, [], ap, ◌∙◌, false}
use Rattle.kr_protocol.specs.Client.{new_client}
use Rattle.client_session.specs.ClientStanding.{ClientStanding}
use Rattle.cluster_parts.proofs.StartLemmas.{one_more}
use Rattle.cluster_parts.proofs.start.callers.Goals as goal

pub loop-i-preserved : goal.loop-i-preserved
loop-i-preserved c =
    let f : ℕ → ClientStanding = λ n. record { client = new_client c.args.view.now (record { 0 = n }); failed = false } in
    let made : c.in_ok-new.field-0 ≡ f (c.loop-i.i + 1) = c.in_ok-new.ensures ∙ ap (λ v. record { client = new_client v (record { 0 = c.loop-i.i + 1 }); failed = false }) c.in_ok-known.ensures in
    c.in_ok-push.ensures.items ∙ ap (λ s. c.loop-i.nodes.items ++ s ∷ []) made ∙ one_more f c.loop-i.i c.loop-i.nodes.items c.loop-i.invariant
