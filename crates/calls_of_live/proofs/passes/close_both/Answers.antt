use Rattle.std.proofs.Common.{◌≡◌, [], ◌∷◌, ◌++◌, ap, ◌∙◌}
use Rattle.live_service.proofs.AllLemmas.{two_passes}
use Rattle.calls_of_live.proofs.passes.close_both.Goals as goal

pub close-requires : goal.close-requires
close-requires g c =
    let first = c.args.first in
    let other = c.args.other in
    let one : c.push_reserved.new.self.items ≡ first ∷ [] = c.push_reserved.ensures.items ∙ ap (λ l. l ++ first ∷ []) c.requires.empty in
    two_passes c.args.service c.push_reserved-2.new.self.items first other
    (c.push_reserved-2.ensures.items ∙ ap (λ l. l ++ other ∷ []) one) c.requires.first.0 c.requires.other.0 c.requires.many c.requires.first.1 c.requires.other.1
