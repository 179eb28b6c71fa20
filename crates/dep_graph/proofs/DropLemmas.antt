-- A link is taken out: the newest of its event. The lists of links stand with the newest first, but where they are
-- said to be a graph's.
use Rattle.std.proofs.Common.{◌≡◌, ℕ, ◌+◌, ◌-◌, ◌<◌, ◌≤◌, Bool, true, false, cond, eqb, suc, List, [], ◌∷◌, ◌++◌, length, get_or, set, refl, sym, ap, ◌∙◌, subst, arith, length-append}
use Rattle.std.specs.Prelude.{Option, None, Some, map, reverse}
use Rattle.std.specs.Option.{option_map}
use Rattle.std.proofs.lemmas.Bool.{both_ways, eq-eqb, eqb-true, ne_eqb}
use Rattle.std.proofs.lemmas.Option.{none-some, same_Some}
use Rattle.std.proofs.lemmas.List.Elements.{filter_map-append}
use Rattle.dep_graph.specs.declared.outs.Link.{Link}
use Rattle.dep_graph.specs.GraphView.{outs_of}
use Rattle.dep_graph.specs.Links.{pair_of, pairs_in, out_of, chain_in, chain, newest_in, newest_of, AreChainedIn, AreChained, IsBelow}
use Rattle.dep_graph.proofs.ChainLemmas.{IsBelow-more, newest_in-below, chain_in-append, AreChainedIn-append, chain-newest, IsCut}

-- a link behind newer ones is the newest of its event where the look-up finds it; then no newer one is of the event
no_newer : (slot : Link) (newer older : List (Option Link)) (link : Link) → newest_in (Some slot ∷ newer ++ Some link ∷ older) link.first.0 ≡ Some (length older) → eqb slot.first.0 link.first.0 ≡ false
no_newer slot newer older link is = one (eqb slot.first.0 link.first.0) is
  where
    one : (same : Bool) → cond same (Some (length (newer ++ Some link ∷ older))) (newest_in (newer ++ Some link ∷ older) link.first.0) ≡ Some (length older) → same ≡ false
    one true is = absurd (omega (arith, same_Some (length (newer ++ Some link ∷ older)) (length older) is, length-append newer (Some link ∷ older)))
    one false is = refl

behind : (slot : Link) (newer older : List (Option Link)) (link : Link) → newest_in (Some slot ∷ newer ++ Some link ∷ older) link.first.0 ≡ Some (length older) → newest_in (newer ++ Some link ∷ older) link.first.0 ≡ Some (length older)
behind slot newer older link is =
    sym (ap (λ t. cond t (Some (length (newer ++ Some link ∷ older))) (newest_in (newer ++ Some link ∷ older) link.first.0)) (no_newer slot newer older link is)) ∙ is

-- the newest link of its event is then the next older one
newest-gap_same : (newer older : List (Option Link)) (link : Link) → newest_in (newer ++ Some link ∷ older) link.first.0 ≡ Some (length older) → newest_in (newer ++ None ∷ older) link.first.0 ≡ newest_in older link.first.0
newest-gap_same [] older link is = refl
newest-gap_same (None ∷ newer) older link is = newest-gap_same newer older link is
newest-gap_same (Some slot ∷ newer) older link is =
    ap (λ t. cond t (Some (length (newer ++ None ∷ older))) (newest_in (newer ++ None ∷ older) link.first.0)) (no_newer slot newer older link is) ∙ newest-gap_same newer older link (behind slot newer older link is)

-- that of another event stays
newest-gap_other : (newer older : List (Option Link)) (link : Link) (event : ℕ) → eqb link.first.0 event ≡ false → newest_in (newer ++ None ∷ older) event ≡ newest_in (newer ++ Some link ∷ older) event
newest-gap_other [] older link event other = sym (ap (λ t. cond t (Some (length older)) (newest_in older event)) other)
newest-gap_other (None ∷ newer) older link event other = newest-gap_other newer older link event other
newest-gap_other (Some slot ∷ newer) older link event other =
    let size : length (newer ++ None ∷ older) ≡ length (newer ++ Some link ∷ older) = omega (arith, length-append newer (None ∷ older), length-append newer (Some link ∷ older)) in
    ap (λ n. cond (eqb slot.first.0 event) (Some n) (newest_in (newer ++ None ∷ older) event)) size ∙ ap (λ rest. cond (eqb slot.first.0 event) (Some (length (newer ++ Some link ∷ older))) rest) (newest-gap_other newer older link event other)

-- the links stay chained
chained-gap : (newer older : List (Option Link)) (link : Link) → newest_in (newer ++ Some link ∷ older) link.first.0 ≡ Some (length older) → AreChainedIn (newer ++ Some link ∷ older) → AreChainedIn (newer ++ None ∷ older)
chained-gap [] older link is chained = chained.1
chained-gap (None ∷ newer) older link is chained = chained-gap newer older link is chained
chained-gap (Some slot ∷ newer) older link is chained =
    let other = no_newer slot newer older link is in
    let apart : eqb link.first.0 slot.first.0 ≡ false = ne_eqb link.first.0 slot.first.0 (λ same. both_ways (eqb slot.first.0 link.first.0) other (eq-eqb slot.first.0 link.first.0 (sym same))) in
    (chained.0 ∙ sym (newest-gap_other newer older link slot.first.0 apart), chained-gap newer older link (behind slot newer older link is) chained.1)

-- what the links of a graph are without the newest of an event
pub record IsGap (links : List (Option Link)) (at : ℕ) (link : Link) : Type 0 where
  pub front : List (ℕ × ℕ)
  pub back : List (ℕ × ℕ)
  pub was : pairs_in links ≡ front ++ pair_of link ∷ back
  pub is : pairs_in (set links at None) ≡ front ++ back
  pub chained : AreChained (set links at None)
  pub same : newest_of (set links at None) link.first.0 ≡ link.next
  pub others : (event : ℕ) → eqb link.first.0 event ≡ false → newest_of (set links at None) event ≡ newest_of links event
  pub outs : outs_of (pairs_in links) link.first.0 ≡ link.second.0 ∷ outs_of (pairs_in (set links at None)) link.first.0

pub gap : (links : List (Option Link)) (at : ℕ) (link : Link) → AreChained links → IsCut links at (Some link) → newest_of links link.first.0 ≡ Some at → IsGap links at link
gap links at link chained parts newest =
    record {
      front = pairs_in parts.front;
      back = pairs_in parts.back;
      was = ap pairs_in parts.is ∙ filter_map-append (option_map pair_of) parts.front (Some link ∷ parts.back);
      is = ap pairs_in parts.emptied ∙ filter_map-append (option_map pair_of) parts.front (None ∷ parts.back);
      chained = chained_after;
      same = same;
      others = λ event other. ap (λ l. newest_in l event) parts.gap ∙ newest-gap_other newer older link event other ∙ sym (ap (λ l. newest_in l event) parts.newest);
      outs = outs;
    }
  where
    newer : List (Option Link)
    newer = reverse parts.back

    older : List (Option Link)
    older = reverse parts.front

    found : newest_in (newer ++ Some link ∷ older) link.first.0 ≡ Some (length older)
    found = sym (ap (λ l. newest_in l link.first.0) parts.newest) ∙ newest ∙ ap Some (sym parts.older)

    chained_here : AreChainedIn (newer ++ Some link ∷ older)
    chained_here = subst AreChainedIn parts.newest chained

    next : link.next ≡ newest_in older link.first.0
    next = (AreChainedIn-append newer (Some link ∷ older) chained_here).0

    chained_after : AreChained (set links at None)
    chained_after = subst AreChainedIn (sym parts.gap) (chained-gap newer older link found chained_here)

    same : newest_of (set links at None) link.first.0 ≡ link.next
    same = ap (λ l. newest_in l link.first.0) parts.gap ∙ newest-gap_same newer older link found ∙ sym next

    below : IsBelow (length older) link.next
    below = subst (IsBelow (length older)) (sym next) (newest_in-below older link.first.0)

    -- the chain from the link, and the one behind it
    over : chain links (newest_of links link.first.0) ≡ out_of link ∷ chain_in older link.next
    over =
        ap (chain links) newest ∙ ap (λ l. chain_in l (Some at)) parts.newest ∙ chain_in-append newer (Some link ∷ older) (Some at) (omega (arith, parts.older)) ∙ ap (λ b. cond b (out_of link ∷ chain_in older link.next) (chain_in older (Some at))) (eq-eqb at (length older) (sym parts.older))

    rest : chain (set links at None) (newest_of (set links at None) link.first.0) ≡ chain_in older link.next
    rest =
        ap (chain (set links at None)) same ∙ ap (λ l. chain_in l link.next) parts.gap ∙ chain_in-append newer (None ∷ older) link.next (IsBelow-more (length older) (suc (length older)) link.next (omega arith) below)

    outs : outs_of (pairs_in links) link.first.0 ≡ link.second.0 ∷ outs_of (pairs_in (set links at None)) link.first.0
    outs =
        sym (chain-newest links link.first.0 chained) ∙ ap (map (λ (out : ℕ × ℕ). out.1)) over ∙ ap (λ l. link.second.0 ∷ map (λ (out : ℕ × ℕ). out.1) l) (sym rest) ∙ ap (λ l. link.second.0 ∷ l) (chain-newest (set links at None) link.first.0 chained_after)
