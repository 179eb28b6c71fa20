use Rattle.std.proofs.Common.{◌≡◌, ℕ, ◌+◌, ◌++◌, ◌∷◌, [], ap, ◌∙◌, false}
use Rattle.kr_protocol.specs.Server.{founder}
use Rattle.chain_server.specs.ServerStanding.{ServerStanding}
use Rattle.cluster_parts.proofs.StartLemmas.{one_more}
use Rattle.cluster_parts.proofs.start.founders.Goals as goal

pub loop-i-preserved : goal.loop-i-preserved
loop-i-preserved c =
    let f : ℕ → ServerStanding = λ n. record { server = founder c.args.view.now (record { 0 = n }); failed = false } in
    let made : c.founder.result ≡ f (c.loop-i.i + 1) = c.founder.ensures ∙ ap (λ v. record { server = founder v (record { 0 = c.loop-i.i + 1 }); failed = false }) c.in_ok-view.ensures in
    c.in_ok-push.ensures.items ∙ ap (λ s. c.loop-i.nodes.items ++ s ∷ []) made ∙ one_more f c.loop-i.i c.loop-i.nodes.items c.loop-i.invariant
