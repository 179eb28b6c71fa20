use Rattle.std.proofs.Common.{sym, ap, ◌∙◌}
use Rattle.std.specs.Option.{unwrap_or}
use Rattle.ref_collect.specs.Counts.{RefsView, count_of}
use Rattle.ref_collect.proofs.CountLemmas.{count_of-number}
use Rattle.ref_collect.proofs.refs.Refs.count.Goals as goal

pub returns-in-Some : goal.returns-in-Some
returns-in-Some c =
    sym (ap (λ n. unwrap_or n 0) (sym c.get.ensures ∙ c.in-Some.is)) ∙ sym (count_of-number c.self.inside.counts.entries c.args.id.0) ∙ ap (λ (r : RefsView). count_of r.counts c.args.id.0) c.self.view_is

pub returns-in-None : goal.returns-in-None
returns-in-None c =
    sym (ap (λ n. unwrap_or n 0) (sym c.get.ensures ∙ c.in-None.is)) ∙ sym (count_of-number c.self.inside.counts.entries c.args.id.0) ∙ ap (λ (r : RefsView). count_of r.counts c.args.id.0) c.self.view_is
