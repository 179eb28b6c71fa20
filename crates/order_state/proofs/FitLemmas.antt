-- The pairs that a command adds to the order can be added to the graph one after the other.
use Rattle.std.proofs.Common.{◌≡◌, ℕ, ◌+◌, Bool, true, false, cond, eqb, ◌&&◌, ◌||◌, List, [], ◌∷◌, ◌++◌, refl, sym, ap, ◌∙◌, subst, append_assoc}
use Rattle.std.specs.Prelude.{None, Some, is_none, map}
use Rattle.std.specs.List.{AllByRecursion}
use Rattle.std.proofs.lemmas.Bool.{and_parts, or_parts}
use Rattle.std.proofs.lemmas.List.{append_cancel_left, append-nil, map-append}
use Rattle.std.proofs.lemmas.List.Elements.{All-nil, recursion_from_All}
use Rattle.kr_order.specs.declared.ids.EventId.{EventId}
use Rattle.kr_order.specs.declared.batch.Pair.{Pair}
use Rattle.kr_order.specs.declared.history.Command.{Command}
use Rattle.kr_order.specs.declared.history.Command.TheVariants.{Create, Assign, Acquire, Release}
use Rattle.kr_order.specs.Order.{reach}
use Rattle.kr_order.specs.Batch.{is_must, forbids, with_pair, with_must, with_prefer, musts_from, prefers_from, contradicts_from, contradicts, pairs_with}
use Rattle.kr_order.specs.Agreed.{first_unknown, accepts, pairs_after}
use Rattle.kr_order.proofs.PairsLemmas.{none_by_test}
use Rattle.dep_graph.specs.GraphView.{GraphView, CanAddAll}
use Rattle.reach.specs.Search.{numbered, AreHeld}
use Rattle.batch_assign.specs.Plan.{IsPairHeld, order_with, CanBeAdded}
use Rattle.batch_assign.proofs.AddLemmas.{CanBeAdded-push}
use Rattle.batch_assign.proofs.KnownLemmas.{IsBatchHeld-known}
use Rattle.order_state.specs.Ordered.{IsOrder}
use Rattle.order_state.proofs.OrderLemmas.{agreed_by}

-- the order is that of the graph, with pairs that can be added to it
record Extends (graph : GraphView) (order : List (ℕ × ℕ)) : Type 0 where
  adds : List (EventId × EventId)
  is : order ≡ order_with graph adds
  can : CanBeAdded graph adds

Extends-refl : (graph : GraphView) → Extends graph graph.pairs
Extends-refl graph =
    record { adds = []; is = sym (append-nil graph.pairs); can = record { held = All-nil (AreHeld graph.vertices); fits = tt } }

-- a pair more that the order does not forbid
Extends-pair : (graph : GraphView) (order : List (ℕ × ℕ)) (pair : Pair) → IsPairHeld graph.vertices pair → forbids order pair ≡ false → Extends graph order → Extends graph (with_pair order pair)
Extends-pair graph order pair held allowed before = by_test (reach order pair.first.0 pair.second.0) refl
  where
    one : EventId × EventId
    one = (pair.first, pair.second)

    pushed : order ++ (pair.first.0, pair.second.0) ∷ [] ≡ order_with graph (before.adds ++ one ∷ [])
    pushed =
        ap (λ l. l ++ (pair.first.0, pair.second.0) ∷ []) before.is ∙ append_assoc graph.pairs (numbered before.adds) (numbered (one ∷ [])) ∙ ap (λ l. graph.pairs ++ l) (sym (map-append (λ (p : EventId × EventId). (p.0.0, p.1.0)) before.adds (one ∷ [])))

    by_test : (said : Bool) → reach order pair.first.0 pair.second.0 ≡ said → Extends graph (cond said order (order ++ (pair.first.0, pair.second.0) ∷ []))
    by_test true is = before
    by_test false is =
        record {
          adds = before.adds ++ one ∷ [];
          is = pushed;
          can = CanBeAdded-push graph before.adds pair held before.can (subst (λ o. forbids o pair ≡ false) before.is allowed) (subst (λ o. reach o pair.first.0 pair.second.0 ≡ false) before.is is);
        }

Extends-with_must : (graph : GraphView) (order : List (ℕ × ℕ)) (pair : Pair) → IsPairHeld graph.vertices pair → (is_must pair.kind && forbids order pair) ≡ false → Extends graph order → Extends graph (with_must order pair)
Extends-with_must graph order pair held allowed before = by_kind (is_must pair.kind) allowed
  where
    by_kind : (must : Bool) → (must && forbids order pair) ≡ false → Extends graph (cond must (with_pair order pair) order)
    by_kind true allowed = Extends-pair graph order pair held allowed before
    by_kind false allowed = before

Extends-with_prefer : (graph : GraphView) (order : List (ℕ × ℕ)) (pair : Pair) → IsPairHeld graph.vertices pair → Extends graph order → Extends graph (with_prefer order pair)
Extends-with_prefer graph order pair held before = by_test (is_must pair.kind || forbids order pair) refl
  where
    by_test : (out : Bool) → (is_must pair.kind || forbids order pair) ≡ out → Extends graph (cond out order (with_pair order pair))
    by_test true is = before
    by_test false is = Extends-pair graph order pair held (or_parts (is_must pair.kind) (forbids order pair) is).1 before

Extends-musts : (i : ℕ) (graph : GraphView) (order : List (ℕ × ℕ)) (batch : List Pair) → AllByRecursion (IsPairHeld graph.vertices) batch → contradicts_from i order batch ≡ None → Extends graph order → Extends graph (musts_from order batch)
Extends-musts i graph order [] held none before = before
Extends-musts i graph order (pair ∷ more) held none before =
    by_test (is_must pair.kind && forbids order pair) refl none (Extends-musts (i + 1) graph (with_must order pair) more held.1)
  where
    by_test : (stops : Bool) → (is_must pair.kind && forbids order pair) ≡ stops → cond stops (Some i) (contradicts_from (i + 1) (with_must order pair) more) ≡ None → (contradicts_from (i + 1) (with_must order pair) more ≡ None → Extends graph (with_must order pair) → Extends graph (musts_from (with_must order pair) more)) → Extends graph (musts_from (with_must order pair) more)
    by_test true is none on = cc
    by_test false is none on = on none (Extends-with_must graph order pair held.0 is before)

Extends-prefers : (graph : GraphView) (order : List (ℕ × ℕ)) (batch : List Pair) → AllByRecursion (IsPairHeld graph.vertices) batch → Extends graph order → Extends graph (prefers_from order batch)
Extends-prefers graph order [] held before = before
Extends-prefers graph order (pair ∷ more) held before =
    Extends-prefers graph (with_prefer order pair) more held.1 (Extends-with_prefer graph order pair held.0 before)

-- the order after a command
Extends-after : (born : ℕ) (counts : List (ℕ × ℕ)) (graph : GraphView) (command : Command) → IsOrder born counts graph → Extends graph (pairs_after command (agreed_by born counts graph.pairs))
Extends-after born counts graph Create order = Extends-refl graph
Extends-after born counts graph (Acquire event) order = Extends-refl graph
Extends-after born counts graph (Release event) order = Extends-refl graph
Extends-after born counts graph (Assign batch) order = by_test (accepts (agreed_by born counts graph.pairs) batch) refl
  where
    by_test : (taken : Bool) → accepts (agreed_by born counts graph.pairs) batch ≡ taken → Extends graph (cond taken (pairs_with graph.pairs batch) graph.pairs)
    by_test true is =
        let both = and_parts (is_none (first_unknown (agreed_by born counts graph.pairs) batch)) (is_none (contradicts graph.pairs batch)) is in
        let known = none_by_test (first_unknown (agreed_by born counts graph.pairs) batch) both.0 in
        let agreeing = none_by_test (contradicts graph.pairs batch) both.1 in
        let held = recursion_from_All (IsPairHeld graph.vertices) batch (IsBatchHeld-known counts graph.vertices batch order.live known) in
        Extends-prefers graph (musts_from graph.pairs batch) batch held (Extends-musts 0 graph graph.pairs batch held agreeing (Extends-refl graph))
    by_test false is = Extends-refl graph

-- what comes behind the pairs of the graph after a command can be added to it
pub adds_fit : (born : ℕ) (counts : List (ℕ × ℕ)) (graph : GraphView) (command : Command) (adds : List (ℕ × ℕ)) → IsOrder born counts graph → pairs_after command (agreed_by born counts graph.pairs) ≡ graph.pairs ++ adds → CanAddAll graph.vertices graph.pairs adds
adds_fit born counts graph command adds order after =
    let whole = Extends-after born counts graph command order in
    let same : numbered whole.adds ≡ adds = append_cancel_left graph.pairs (numbered whole.adds) adds (sym whole.is ∙ after) in
    subst (CanAddAll graph.vertices graph.pairs) same whole.can.fits
