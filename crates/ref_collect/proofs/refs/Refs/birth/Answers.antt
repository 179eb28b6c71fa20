use Rattle.std.proofs.Common.{◌<◌, ◌≤◌, ℕ, List, sym, subst, arith}
use Rattle.std.specs.List.{All}
use Rattle.std.proofs.lemmas.List.Elements.{All-push, All-weaker}
use Rattle.ref_collect.specs.Counts.{RefsView}
use Rattle.ref_collect.proofs.CountLemmas.{count_of-push, All-above}
use Rattle.ref_collect.proofs.refs.Refs.birth.Goals as goal

pub push-requires-clause-greatest : goal.push-requires-clause-greatest
push-requires-clause-greatest c =
    All-above c.self.inside.born c.args.id.0 c.self.inside.counts.entries (subst (λ (r : RefsView). r.born < c.args.id.0) (sym c.self.view_is) c.requires.greatest) c.self.invariant.latest

pub invariant_of-self : goal.invariant_of-self
invariant_of-self c =
    let entries = c.self.inside.counts.entries in
    let greater : c.self.inside.born < c.args.id.0 = subst (λ (r : RefsView). r.born < c.args.id.0) (sym c.self.view_is) c.requires.greatest in
    rw c.push.ensures.entries record {
      live = All-push (λ (entry : ℕ × ℕ). 0 < entry.1) entries (c.args.id.0, 1) c.self.invariant.live (omega arith);
      latest = All-push (λ (entry : ℕ × ℕ). entry.0 ≤ c.args.id.0) entries (c.args.id.0, 1)
          (All-weaker (λ (entry : ℕ × ℕ). entry.0 ≤ c.self.inside.born) (λ (entry : ℕ × ℕ). entry.0 ≤ c.args.id.0) (λ entry least. omega (arith, least, greater)) entries c.self.invariant.latest) (omega arith);
    }

pub returns-clause-count : goal.returns-clause-count
returns-clause-count c event =
    rw (c.push.ensures.entries, ← c.self.view_is) (count_of-push c.self.inside.counts.entries c.args.id.0 1 event (All-above c.self.inside.born c.args.id.0 c.self.inside.counts.entries (subst (λ (r : RefsView). r.born < c.args.id.0) (sym c.self.view_is) c.requires.greatest) c.self.invariant.latest))
