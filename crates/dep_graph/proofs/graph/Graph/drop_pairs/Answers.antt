use Rattle.std.proofs.Common.{◌≡◌, ◌≤◌, Bool, true, false, ℕ, List, [], refl, sym, ap, ◌∙◌, subst, arith}
use Rattle.dep_graph.specs.GraphView.{GraphView, outs_of}
use Rattle.dep_graph.specs.Links.{IsDropped}
use Rattle.dep_graph.proofs.ChangeLemmas.{IsDropping, IsDropping-more, pairs-dropped}
use Rattle.dep_graph.proofs.graph.Graph.drop_pairs.Goals as goal

-- one turn goes on, or changes nothing
turn : (event : ℕ) (old pairs new : List (ℕ × ℕ)) (old_bare bare new_bare : List ℕ) (more : Bool) → IsDropping event old pairs old_bare bare → (more ≡ true → IsDropped event pairs new bare new_bare) → (more ≡ false → new ≡ pairs) → (more ≡ false → new_bare ≡ bare) → IsDropping event old new old_bare new_bare
turn event old pairs new old_bare bare new_bare true was some same same_bare = IsDropping-more event old pairs new old_bare bare new_bare was (some refl)
turn event old pairs new old_bare bare new_bare false was some same same_bare =
    subst (λ ps. IsDropping event old ps old_bare new_bare) (sym (same refl)) (subst (IsDropping event old pairs old_bare) (sym (same_bare refl)) was)

pub loop-dropped-preserved : goal.loop-dropped-preserved
loop-dropped-preserved c =
    let was = c.loop-dropped.invariant in
    let then = c.drop_pair-dropped.ensures in
    record {
      way = turn c.args.id.0 c.args.self.now.pairs c.loop-dropped.self.pairs c.drop_pair-dropped.new.self.pairs c.args.self.now.bare c.loop-dropped.self.bare c.drop_pair-dropped.new.self.bare c.drop_pair-dropped.result was.way then.some (λ no. ap (λ (g : GraphView). g.pairs) (then.same no)) (λ no. ap (λ (g : GraphView). g.bare) (then.same no));
      ended = λ no. ap (λ (g : GraphView). outs_of g.pairs c.args.id.0) (then.same no) ∙ then.none no;
      vertices = then.vertices ∙ was.vertices;
      slots = then.slots ∙ was.slots;
      spare_vertices = then.spare_vertices ∙ was.spare_vertices;
      spare_pairs = omega (arith, then.spare_pairs, was.spare_pairs);
    }

pub returns-clause-pairs : goal.returns-clause-pairs
returns-clause-pairs c =
    pairs-dropped c.args.id.0 c.args.self.now.pairs c.loop-dropped.self.pairs c.args.self.now.bare c.loop-dropped.self.bare c.loop-dropped.invariant.way (c.loop-dropped.invariant.ended c.loop-dropped-test.false)
