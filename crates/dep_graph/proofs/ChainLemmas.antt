-- Links that follow one another. The lists of links stand with the newest first, but where they are said to be a
-- graph's.
use Rattle.std.proofs.Common.{◌≡◌, ℕ, ◌+◌, ◌-◌, ◌<◌, ◌≤◌, Bool, true, false, cond, eqb, suc, List, [], ◌∷◌, ◌++◌, length, get_or, set, take, drop, refl, sym, ap, ◌∙◌, subst, inl, inr, arith, length-append}
use Rattle.std.specs.Prelude.{Option, None, Some, map, filter_map, reverse}
use Rattle.std.specs.Option.{option_map}
use Rattle.std.specs.List.{All, AllByRecursion, filter, cons_option}
use Rattle.std.proofs.lemmas.Bool.{cases_lt, eq-eqb, eqb-true, ne_eqb, both_ways}
use Rattle.std.proofs.lemmas.List.{reverse-append, length-reverse, take-append-drop, drop_more, length-take-le, get_or_past, append_assoc, append-nil, set_at, get_or-reverse, get_or_default}
use Rattle.std.proofs.lemmas.List.Elements.{filter_map-append, recursion_from_All, All-from_recursion}
use Rattle.std.proofs.lemmas.Option.{none-some, same_Some}
use Rattle.dep_graph.specs.declared.outs.Link.{Link}
use Rattle.dep_graph.specs.GraphView.{outs_of}
use Rattle.dep_graph.specs.Links.{pair_of, pairs_in, out_of, chain_in, chain, newest_in, newest_of, AreChainedIn, AreChained, IsBelow}

-- what is below a number is below a greater one
pub IsBelow-more : (n m : ℕ) (start : Option ℕ) → n ≤ m → IsBelow n start → IsBelow m start
IsBelow-more n m None le below = tt
IsBelow-more n m (Some at) le below = omega arith

-- the newest link of an event is one of the links
pub newest_in-below : (newest : List (Option Link)) (event : ℕ) → IsBelow (length newest) (newest_in newest event)
newest_in-below [] event = tt
newest_in-below (None ∷ older) event = IsBelow-more (length older) (suc (length older)) (newest_in older event) (omega arith) (newest_in-below older event)
newest_in-below (Some link ∷ older) event = one (eqb link.first.0 event) (newest_in older event) (newest_in-below older event)
  where
    one : (same : Bool) (rest : Option ℕ) → IsBelow (length older) rest → IsBelow (suc (length older)) (cond same (Some (length older)) rest)
    one true rest below = omega arith
    one false rest below = IsBelow-more (length older) (suc (length older)) rest (omega arith) below

-- no link follows no start, nor one past the end
pub chain_in-none : (newest : List (Option Link)) → chain_in newest None ≡ []
chain_in-none [] = refl
chain_in-none (None ∷ older) = chain_in-none older
chain_in-none (Some link ∷ older) = refl

chain_in-past : (newest : List (Option Link)) (at : ℕ) → length newest ≤ at → chain_in newest (Some at) ≡ []
chain_in-past [] at past = refl
chain_in-past (None ∷ older) at past = chain_in-past older at (omega arith)
chain_in-past (Some link ∷ older) at past =
    ap (λ b. cond b (out_of link ∷ chain_in older link.next) (chain_in older (Some at))) (ne_eqb at (length older) (λ same. omega (arith, same))) ∙ chain_in-past older at (omega arith)

-- newer links don't change a chain that starts below them
pub chain_in-append : (newer older : List (Option Link)) (start : Option ℕ) → IsBelow (length older) start → chain_in (newer ++ older) start ≡ chain_in older start
chain_in-append [] older start below = refl
chain_in-append (None ∷ newer) older start below = chain_in-append newer older start below
chain_in-append (Some link ∷ newer) older None below = sym (chain_in-none older)
chain_in-append (Some link ∷ newer) older (Some at) below =
    ap (λ b. cond b (out_of link ∷ chain_in (newer ++ older) link.next) (chain_in (newer ++ older) (Some at))) (ne_eqb at (length (newer ++ older)) (λ same. omega (arith, same, length-append newer older))) ∙ chain_in-append newer older (Some at) below

-- older links are chained among themselves
pub AreChainedIn-append : (newer older : List (Option Link)) → AreChainedIn (newer ++ older) → AreChainedIn older
AreChainedIn-append [] older chained = chained
AreChainedIn-append (None ∷ newer) older chained = AreChainedIn-append newer older chained
AreChainedIn-append (Some link ∷ newer) older chained = AreChainedIn-append newer older chained.1

-- one more link is the first of its event's chain, and is in no other
chain_in-first : (link : Link) (older : List (Option Link)) (event : ℕ) → link.next ≡ newest_in older link.first.0 → (same : Bool) → eqb link.first.0 event ≡ same → map (λ (out : ℕ × ℕ). out.1) (chain_in older (newest_in older event)) ≡ map (λ (pair : ℕ × ℕ). pair.1) (filter (λ pair. eqb pair.0 event) (pairs_in older)) → map (λ (out : ℕ × ℕ). out.1) (chain_in (Some link ∷ older) (cond same (Some (length older)) (newest_in older event))) ≡ map (λ (pair : ℕ × ℕ). pair.1) (cond same (pair_of link ∷ filter (λ pair. eqb pair.0 event) (pairs_in older)) (filter (λ pair. eqb pair.0 event) (pairs_in older)))
chain_in-first link older event next true is rest =
    let here : chain_in (Some link ∷ older) (Some (length older)) ≡ out_of link ∷ chain_in older link.next = ap (λ b. cond b (out_of link ∷ chain_in older link.next) (chain_in older (Some (length older)))) (eq-eqb (length older) (length older) refl) in
    let on : link.next ≡ newest_in older event = next ∙ ap (newest_in older) (eqb-true link.first.0 event is) in
    ap (map (λ (out : ℕ × ℕ). out.1)) (here ∙ ap (λ start. out_of link ∷ chain_in older start) on) ∙ ap (λ events. link.second.0 ∷ events) rest
chain_in-first link older event next false is rest =
    ap (map (λ (out : ℕ × ℕ). out.1)) (chain_in-append (Some link ∷ []) older (newest_in older event) (newest_in-below older event)) ∙ rest

-- the chain of an event goes over its pairs
chain_in-newest : (newest : List (Option Link)) (event : ℕ) → AreChainedIn newest → map (λ (out : ℕ × ℕ). out.1) (chain_in newest (newest_in newest event)) ≡ map (λ (pair : ℕ × ℕ). pair.1) (filter (λ pair. eqb pair.0 event) (pairs_in newest))
chain_in-newest [] event chained = refl
chain_in-newest (None ∷ older) event chained = chain_in-newest older event chained
chain_in-newest (Some link ∷ older) event chained =
    chain_in-first link older event (chained.0) (eqb link.first.0 event) refl (chain_in-newest older event chained.1)

-- the pairs, the newest first
pub pairs_in-reverse : (links : List (Option Link)) → pairs_in (reverse links) ≡ reverse (pairs_in links)
pairs_in-reverse [] = refl
pairs_in-reverse (slot ∷ more) =
    ap pairs_in (reverse-append (slot ∷ []) more) ∙ filter_map-append (option_map pair_of) (reverse more) (slot ∷ []) ∙ ap (λ pairs. pairs ++ pairs_in (slot ∷ [])) (pairs_in-reverse more) ∙ one slot (pairs_in more)
  where
    one : (slot : Option Link) (rest : List (ℕ × ℕ)) → reverse rest ++ cons_option (option_map pair_of slot) [] ≡ reverse (cons_option (option_map pair_of slot) rest)
    one None rest = append-nil (reverse rest)
    one (Some link) rest = sym (reverse-append (pair_of link ∷ []) rest)

-- the chain of an event of a graph's links goes over its successors
pub chain-newest : (links : List (Option Link)) (event : ℕ) → AreChained links → map (λ (out : ℕ × ℕ). out.1) (chain links (newest_of links event)) ≡ outs_of (pairs_in links) event
chain-newest links event chained =
    chain_in-newest (reverse links) event chained ∙ ap (λ pairs. map (λ (pair : ℕ × ℕ). pair.1) (filter (λ pair. eqb pair.0 event) pairs)) (pairs_in-reverse links)

-- the links of a graph before and behind an index, and the same with the newest first
pub record IsCut (links : List (Option Link)) (at : ℕ) (slot : Option Link) : Type 0 where
  pub front : List (Option Link)
  pub back : List (Option Link)
  pub is : links ≡ front ++ slot ∷ back
  pub size : length front ≡ at
  pub newest : reverse links ≡ reverse back ++ slot ∷ reverse front
  pub older : length (reverse front) ≡ at
  pub emptied : set links at None ≡ front ++ None ∷ back
  pub gap : reverse (set links at None) ≡ reverse back ++ None ∷ reverse front

reverse-cut : (front back : List (Option Link)) (slot : Option Link) → reverse (front ++ slot ∷ back) ≡ reverse back ++ slot ∷ reverse front
reverse-cut front back slot =
    reverse-append front (slot ∷ back) ∙ ap (λ l. l ++ reverse front) (reverse-append (slot ∷ []) back) ∙ append_assoc (reverse back) (slot ∷ []) (reverse front)

pub cut : (links : List (Option Link)) (at : ℕ) (slot : Option Link) → at < length links → get_or links at slot ≡ slot → IsCut links at slot
cut links at slot below here =
    record { front = take at links; back = drop (at + 1) links; is = parts; size = size; newest = ap reverse parts ∙ reverse-cut front back slot; older = length-reverse front ∙ size; emptied = emptied; gap = ap reverse emptied ∙ reverse-cut front back None }
  where
    front : List (Option Link)
    front = take at links

    back : List (Option Link)
    back = drop (at + 1) links

    size : length front ≡ at
    size = length-take-le at links (omega arith)

    parts : links ≡ front ++ slot ∷ back
    parts = sym (take-append-drop at links) ∙ ap (λ l. front ++ l) (drop_more links at slot below ∙ ap (λ s. s ∷ back) here)

    emptied : set links at None ≡ front ++ None ∷ back
    emptied = ap (λ l. set l at None) parts ∙ set_at front slot back None at size

-- the chain from a link's index goes over it and on
pub record GoesOn (links : List (Option Link)) (at : ℕ) (link : Link) : Type 0 where
  pub over : chain links (Some at) ≡ out_of link ∷ chain links link.next
  pub below : IsBelow (length links) link.next

pub chain-at : (links : List (Option Link)) (at : ℕ) (link : Link) → AreChained links → at < length links → get_or links at None ≡ Some link → GoesOn links at link
chain-at links at link chained below here =
    let parts = cut links at (Some link) below (get_or_default links at (Some link) None below ∙ here) in
    let older = reverse parts.front in
    let newer = reverse parts.back in
    let chained_here : AreChainedIn (Some link ∷ older) = AreChainedIn-append newer (Some link ∷ older) (subst AreChainedIn parts.newest chained) in
    let next_below : IsBelow (length older) link.next = subst (IsBelow (length older)) (sym chained_here.0) (newest_in-below older link.first.0) in
    let first : chain links (Some at) ≡ chain_in (Some link ∷ older) (Some at) = ap (λ l. chain_in l (Some at)) parts.newest ∙ chain_in-append newer (Some link ∷ older) (Some at) (omega (arith, parts.older)) in
    let here : chain_in (Some link ∷ older) (Some at) ≡ out_of link ∷ chain_in older link.next = ap (λ b. cond b (out_of link ∷ chain_in older link.next) (chain_in older (Some at))) (eq-eqb at (length older) (sym parts.older)) in
    let rest : chain links link.next ≡ chain_in older link.next = ap (λ l. chain_in l link.next) parts.newest ∙ chain_in-append newer (Some link ∷ older) link.next (IsBelow-more (length older) (suc (length older)) link.next (omega arith) next_below) ∙ chain_in-append (Some link ∷ []) older link.next next_below in
    record { over = first ∙ here ∙ ap (λ l. out_of link ∷ l) (sym rest); below = IsBelow-more (length older) (length links) link.next (omega (arith, parts.older)) next_below }

-- nothing follows from an index whose link was taken out
pub chain-gap : (links : List (Option Link)) (at : ℕ) → at < length links → get_or links at None ≡ None → chain links (Some at) ≡ []
chain-gap links at below here =
    let parts = cut links at None below here in
    ap (λ l. chain_in l (Some at)) parts.newest ∙ chain_in-append (reverse parts.back) (None ∷ reverse parts.front) (Some at) (omega (arith, parts.older)) ∙ chain_in-past (reverse parts.front) at (omega (arith, parts.older))

-- what is so of where each link leads is so along a chain
chain_in-all : (P : ℕ × ℕ → Type 0) (Q : Option Link → Type 0) → ((link : Link) → Q (Some link) → P (out_of link)) → (newest : List (Option Link)) (start : Option ℕ) → AllByRecursion Q newest → AllByRecursion P (chain_in newest start)
chain_in-all P Q leads [] start all = tt
chain_in-all P Q leads (None ∷ older) start all = chain_in-all P Q leads older start all.1
chain_in-all P Q leads (Some link ∷ older) None all = tt
chain_in-all P Q leads (Some link ∷ older) (Some at) all =
    elim (eqb at (length older)) as (λ b. AllByRecursion P (cond b (out_of link ∷ chain_in older link.next) (chain_in older (Some at)))) [
      | true ↦ (leads link all.0, chain_in-all P Q leads older link.next all.1)
      | false ↦ chain_in-all P Q leads older (Some at) all.1
    ]

-- what is so of all elements is so of all of them in the other order
pub All-reverse : {X : Type 0} (P : X → Type 0) (xs : List X) → All P xs → All P (reverse xs)
All-reverse P xs all k d below =
    let size = length-reverse xs in
    let in_xs : k < length xs = omega arith in
    subst P (sym (get_or-reverse xs k d in_xs)) (all (length xs - 1 - k) d (omega arith))

pub All-chain : (P : ℕ × ℕ → Type 0) (Q : Option Link → Type 0) → ((link : Link) → Q (Some link) → P (out_of link)) → (links : List (Option Link)) (start : Option ℕ) → All Q links → All P (chain links start)
All-chain P Q leads links start all =
    All-from_recursion P (chain links start) (chain_in-all P Q leads (reverse links) start (recursion_from_All Q (reverse links) (All-reverse Q links all)))
