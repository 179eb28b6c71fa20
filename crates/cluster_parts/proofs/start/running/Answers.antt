use Rattle.std.proofs.Common.{ℕ, Bool, false, ◌∙◌}
use Rattle.cluster_parts.proofs.StartLemmas.{one_more}
use Rattle.cluster_parts.proofs.start.running.Goals as goal

pub loop-i-preserved : goal.loop-i-preserved
loop-i-preserved c =
    let f : ℕ → Bool = λ n. false in
    c.in_ok-push.ensures.items ∙ one_more f c.loop-i.i c.loop-i.marks.items c.loop-i.invariant
