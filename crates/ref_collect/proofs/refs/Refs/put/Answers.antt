use Rattle.std.proofs.Common.{◌≡◌, ◌<◌, ◌≤◌, ℕ, cond, eqb, not, sym, ap, ◌∙◌, subst, arith}
use Rattle.std.specs.List.{All}
use Rattle.std.proofs.lemmas.List.Elements.{All-filter}
use Rattle.dep_graph.proofs.HeldLemmas.{events_of}
use Rattle.ref_collect.specs.Counts.{RefsView, count_of}
use Rattle.ref_collect.proofs.CountLemmas.{counted_some, count_of-with, count_of-without, events_of-with, All-with}
use Rattle.ref_collect.proofs.refs.Refs.put.Goals as goal

pub remove-requires : goal.remove-requires
remove-requires c =
    counted_some c.self.inside.counts.entries c.args.id.0 (subst (λ (r : RefsView). 0 < count_of r.counts c.args.id.0) (sym c.self.view_is) c.requires)

pub set-requires : goal.set-requires
set-requires c =
    counted_some c.self.inside.counts.entries c.args.id.0 (subst (λ (r : RefsView). 0 < count_of r.counts c.args.id.0) (sym c.self.view_is) c.requires)

pub invariant_of-self-else-count-gt0 : goal.invariant_of-self-else-count-gt0
invariant_of-self-else-count-gt0 c =
    let entries = c.self.inside.counts.entries in
    let other = λ (entry : ℕ × ℕ). not (eqb entry.0 c.args.id.0) in
    rw c.remove.ensures.entries record {
      live = All-filter other (λ (entry : ℕ × ℕ). 0 < entry.1) entries c.self.invariant.live;
      latest = All-filter other (λ (entry : ℕ × ℕ). entry.0 ≤ c.self.inside.born) entries c.self.invariant.latest;
    }

pub invariant_of-self : goal.invariant_of-self
invariant_of-self c =
    let some : 0 < c.args.count = omega (arith, c.if-count-gt0.true) in
    let entries = c.self.inside.counts.entries in
    let born = c.self.inside.born in
    rw c.set.ensures.entries record {
      live = All-with (λ (entry : ℕ × ℕ). 0 < entry.1) entries c.args.id.0 c.args.count (λ entry same holds. some) c.self.invariant.live;
      latest = All-with (λ (entry : ℕ × ℕ). entry.0 ≤ born) entries c.args.id.0 c.args.count (λ entry same holds. subst (λ e. e ≤ born) same holds) c.self.invariant.latest;
    }

pub returns-else-count-gt0-clause-count : goal.returns-else-count-gt0-clause-count
returns-else-count-gt0-clause-count c event =
    let none : 0 ≡ c.args.count = omega (arith, c.if-count-gt0.false) in
    ap (λ counts. count_of counts event) c.remove.ensures.entries ∙ count_of-without c.self.inside.counts.entries c.args.id.0 event ∙ ap (λ n. cond (eqb event c.args.id.0) n (count_of c.self.inside.counts.entries event)) none ∙ ap (λ (r : RefsView). cond (eqb event c.args.id.0) c.args.count (count_of r.counts event)) c.self.view_is

pub returns-else-count-gt0-clause-below : goal.returns-else-count-gt0-clause-below
returns-else-count-gt0-clause-below c n all =
    rw c.remove.ensures.entries (All-filter (λ (entry : ℕ × ℕ). not (eqb entry.0 c.args.id.0)) (λ (entry : ℕ × ℕ). entry.0 < n) c.self.inside.counts.entries (subst (λ (r : RefsView). All (λ entry. entry.0 < n) r.counts) (sym c.self.view_is) all))

pub returns-then-count-gt0-clause-count : goal.returns-then-count-gt0-clause-count
returns-then-count-gt0-clause-count c event =
    let some = counted_some c.self.inside.counts.entries c.args.id.0 (subst (λ (r : RefsView). 0 < count_of r.counts c.args.id.0) (sym c.self.view_is) c.requires) in
    ap (λ counts. count_of counts event) c.set.ensures.entries ∙ count_of-with c.self.inside.counts.entries c.args.id.0 c.args.count event some ∙ ap (λ (r : RefsView). cond (eqb event c.args.id.0) c.args.count (count_of r.counts event)) c.self.view_is

pub returns-then-count-gt0-clause-events : goal.returns-then-count-gt0-clause-events
returns-then-count-gt0-clause-events c some =
    ap events_of c.set.ensures.entries ∙ events_of-with c.self.inside.counts.entries c.args.id.0 c.args.count ∙ ap (λ (r : RefsView). events_of r.counts) c.self.view_is

pub returns-then-count-gt0-clause-below : goal.returns-then-count-gt0-clause-below
returns-then-count-gt0-clause-below c n all =
    rw c.set.ensures.entries (All-with (λ (entry : ℕ × ℕ). entry.0 < n) c.self.inside.counts.entries c.args.id.0 c.args.count (λ entry same holds. subst (λ e. e < n) same holds) (subst (λ (r : RefsView). All (λ entry. entry.0 < n) r.counts) (sym c.self.view_is) all))
