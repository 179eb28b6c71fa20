-- When a pair more can be added after others, and what is left to add after the first of them.
use Rattle.std.proofs.Common.{◌≡◌, ℕ, Bool, true, false, eqb, ◌&&◌, ◌||◌, List, [], ◌∷◌, ◌++◌, sym, ap, ◌∙◌, subst, append_assoc}
use Rattle.std.proofs.lemmas.Bool.{and_parts, both_ways, eqb-true, false_from_ne_true, or_parts}
use Rattle.std.proofs.lemmas.List.{append-nil, map-append}
use Rattle.std.proofs.lemmas.List.Elements.{All-push}
use Rattle.std.proofs.lemmas.List.Folds.{Any-from_list_any}
use Rattle.kr_order.specs.Prefix.{IsPrefix}
use Rattle.kr_order.specs.declared.ids.EventId.{EventId}
use Rattle.kr_order.specs.declared.batch.Pair.{Pair}
use Rattle.kr_order.specs.Order.{reach, IsAcyclic}
use Rattle.kr_order.specs.Batch.{forbids}
use Rattle.kr_order.proofs.OrderLemmas.{reach_pair, never_back, IsAcyclic-push}
use Rattle.dep_graph.specs.GraphView.{GraphView, has_pair, CanAdd, CanAddAll}
use Rattle.reach.specs.Search.{numbered, AreHeld}
use Rattle.batch_assign.specs.Plan.{IsPairHeld, order_with, CanBeAdded}

-- where no path leads, there is no pair
no_pair : (pairs : List (ℕ × ℕ)) (a b : ℕ) → reach pairs a b ≡ false → has_pair pairs a b ≡ false
no_pair pairs a b none =
    false_from_ne_true (has_pair pairs a b) (λ there.
    let test : ℕ × ℕ → Bool = λ pair. eqb pair.0 a && eqb pair.1 b in
    let found = Any-from_list_any test pairs there in
    let same = and_parts (eqb found.1.0 a) (eqb found.1.1 b) found.4 in
    let path : reach pairs found.1.0 found.1.1 ≡ true = subst (λ (pair : ℕ × ℕ). reach pairs pair.0 pair.1 ≡ true) found.3 (reach_pair pairs found.0 found.1 found.2) in
    both_ways (reach pairs a b) none (subst (λ x. reach pairs x b ≡ true) (eqb-true found.1.0 a same.0) (subst (λ y. reach pairs found.1.0 y ≡ true) (eqb-true found.1.1 b same.1) path)))

-- a pair more that can be added after the others
CanAddAll-push : (vertices : List ℕ) (pairs adds : List (ℕ × ℕ)) (a b : ℕ) → CanAddAll vertices pairs adds → CanAdd vertices (pairs ++ adds) a b → CanAddAll vertices pairs (adds ++ (a, b) ∷ [])
CanAddAll-push vertices pairs [] a b all one = (subst (λ order. CanAdd vertices order a b) (append-nil pairs) one, tt)
CanAddAll-push vertices pairs (pair ∷ more) a b all one =
    (all.0, CanAddAll-push vertices (pairs ++ pair ∷ []) more a b all.1 (subst (λ order. CanAdd vertices order a b) (sym (append_assoc pairs (pair ∷ []) more)) one))

-- a pair that the order does not forbid, and that no path says already, can be added after the others
pub CanBeAdded-push : (graph : GraphView) (adds : List (EventId × EventId)) (pair : Pair) → IsPairHeld graph.vertices pair → CanBeAdded graph adds → forbids (order_with graph adds) pair ≡ false → reach (order_with graph adds) pair.first.0 pair.second.0 ≡ false → CanBeAdded graph (adds ++ (pair.first, pair.second) ∷ [])
CanBeAdded-push graph adds pair joined can allowed unsaid =
    let order = order_with graph adds in
    let parts = or_parts (eqb pair.first.0 pair.second.0) (reach order pair.second.0 pair.first.0) allowed in
    let one : CanAdd graph.vertices order pair.first.0 pair.second.0 = record {
      first = joined.first;
      second = joined.second;
      apart = parts.0;
      is_new = no_pair order pair.first.0 pair.second.0 unsaid;
      not_back = parts.1;
    } in
    record {
      held = All-push (AreHeld graph.vertices) adds (pair.first, pair.second) can.held (record { first = joined.first; second = joined.second });
      fits = subst (CanAddAll graph.vertices graph.pairs) (sym (map-append (λ (p : EventId × EventId). (p.0.0, p.1.0)) adds ((pair.first, pair.second) ∷ []))) (CanAddAll-push graph.vertices graph.pairs (numbered adds) pair.first.0 pair.second.0 can.fits one);
    }

-- the order begins with that of fewer pairs
pub IsPrefix-order_with : (graph : GraphView) (adds : List (EventId × EventId)) (pair : EventId × EventId) → IsPrefix (order_with graph adds) (order_with graph (adds ++ pair ∷ []))
IsPrefix-order_with graph adds pair =
    record {
      more = numbered (pair ∷ []);
      is = ap (λ pairs. graph.pairs ++ pairs) (map-append (λ (p : EventId × EventId). (p.0.0, p.1.0)) adds (pair ∷ [])) ∙ sym (append_assoc graph.pairs (numbered adds) (numbered (pair ∷ [])));
    }

-- an order without a cycle has none where pairs that can be added are added
pub IsAcyclic-all : (vertices : List ℕ) (pairs adds : List (ℕ × ℕ)) → IsAcyclic pairs → CanAddAll vertices pairs adds → IsAcyclic (pairs ++ adds)
IsAcyclic-all vertices pairs [] acyclic all = subst IsAcyclic (sym (append-nil pairs)) acyclic
IsAcyclic-all vertices pairs (pair ∷ more) acyclic all =
    subst IsAcyclic (append_assoc pairs (pair ∷ []) more) (IsAcyclic-all vertices (pairs ++ pair ∷ []) more (IsAcyclic-push pairs pair.0 pair.1 acyclic (ap (λ test. test || reach pairs pair.1 pair.0) all.0.apart ∙ all.0.not_back)) all.1)

-- an order that says a pair does not forbid it
pub forbids-said : (graph : GraphView) (adds : List (EventId × EventId)) (pair : Pair) → IsAcyclic graph.pairs → CanBeAdded graph adds → eqb pair.first.0 pair.second.0 ≡ false → reach (order_with graph adds) pair.first.0 pair.second.0 ≡ true → forbids (order_with graph adds) pair ≡ false
forbids-said graph adds pair acyclic can apart said =
    let order = order_with graph adds in
    ap (λ test. test || reach order pair.second.0 pair.first.0) apart ∙ never_back order pair.first.0 pair.second.0 (IsAcyclic-all graph.vertices graph.pairs (numbered adds) acyclic can.fits) said
