-- How a walk that puts events in order goes on, and how it ends.
use Rattle.std.proofs.Common.{◌≡◌, ◌⊎◌, ℕ, ◌+◌, ◌<◌, ◌≤◌, Bool, true, false, List, [], ◌∷◌, ◌++◌, length, get_or, set, refl, sym, ap, ◌∙◌, subst, inl, inr, ⊎_elim, arith, length-set, get_or-set_same, get_or-set_other}
use Rattle.std.specs.Prelude.{count_by, not, replicate}
use Rattle.std.proofs.lemmas.Bool.{false≢true, cases_eq, cases_lt}
use Rattle.std.proofs.lemmas.List.{length_push, get_or_push, get_or_append_left, get_or_past, length-replicate, get_or-replicate}
use Rattle.kr_order.specs.Order.{reach}
use Rattle.kr_order.proofs.OrderLemmas.{reach-trans}
use Rattle.clock_import.specs.declared.links.Link.{Link}
use Rattle.clock_import.specs.Links.{LeadsTo, link_at}
use Rattle.clock_import.specs.Walk.{is_marked, Stands, StandsBefore, IsInOrder, IsWalk, IsVisited, Visits, Says, HasCycle, IsOrder}

pub stands_push : (xs : List ℕ) (y a : ℕ) → Stands xs a → Stands (xs ++ y ∷ []) a
stands_push xs y a there =
    let below = there.1 in
    let many = length_push xs y in
    (there.0, omega arith, get_or_append_left xs (y ∷ []) 0 there.0 below ∙ there.2)

pub stands_last : (xs : List ℕ) (y : ℕ) → Stands (xs ++ y ∷ []) y
stands_last xs y = let many = length_push xs y in (length xs, omega arith, get_or_push xs y 0 (length xs) refl)

pub stands_cases : (xs : List ℕ) (y a : ℕ) → Stands (xs ++ y ∷ []) a → Stands xs a ⊎ (y ≡ a)
stands_cases xs y a there =
    let below = there.1 in
    let many = length_push xs y in
    ⊎_elim
    (λ (last : there.0 ≡ length xs). inr (sym (get_or_push xs y 0 there.0 (sym last)) ∙ there.2))
    (λ (other : there.0 ≡ length xs → ⊥).
    let within : there.0 < length xs = omega arith in
    inl (there.0, within, sym (get_or_append_left xs (y ∷ []) 0 there.0 within) ∙ there.2))
    (cases_eq there.0 (length xs))

-- a mark more
pub marked_same : (marks : List Bool) (a : ℕ) → a < length marks → is_marked (set marks a true) a ≡ true
marked_same marks a below = get_or-set_same marks a true false below

pub marked_kept : (marks : List Bool) (a b : ℕ) → a < length marks → is_marked marks b ≡ true → is_marked (set marks a true) b ≡ true
marked_kept marks a b below is =
    ⊎_elim
    (λ (same : b ≡ a). ap (is_marked (set marks a true)) same ∙ marked_same marks a below)
    (λ (other : b ≡ a → ⊥). get_or-set_other marks a b true false other ∙ is)
    (cases_eq b a)

pub marked_cases : (marks : List Bool) (a b : ℕ) → is_marked (set marks a true) b ≡ true → (b ≡ a) ⊎ (is_marked marks b ≡ true)
marked_cases marks a b is =
    ⊎_elim
    (λ (same : b ≡ a). inl same)
    (λ (other : b ≡ a → ⊥). inr (sym (get_or-set_other marks a b true false other) ∙ is))
    (cases_eq b a)

-- how many events were not taken up
abbrev pub untaken : List Bool → ℕ
untaken marks = count_by not marks

-- the walk on its way to the event e: what it began with, what is done and was taken up, the order, and the way to go
-- back
pub record IsVisiting (links : List Link) (e : ℕ) (begun done taken : List Bool) (order stack : List ℕ) : Type 0 where
  pub done_many : length done ≡ length begun
  pub taken_many : length taken ≡ length begun
  pub ordered : IsInOrder links (length begun) order
  pub placed : (a : ℕ) → is_marked done a ≡ true → Stands order a
  pub kept : (a : ℕ) → is_marked begun a ≡ true → is_marked done a ≡ true
  pub within : (j : ℕ) → j < length stack → get_or stack j 0 < length begun
  pub path : (pairs : List (ℕ × ℕ)) → Says links (length begun) pairs → (i j : ℕ) → i < j → j < length stack → reach pairs (get_or stack j 0 + 1) (get_or stack i 0 + 1) ≡ true
  pub opened : (a : ℕ) → is_marked taken a ≡ true → (is_marked done a ≡ true) ⊎ Stands stack a
  pub goal : (is_marked done e ≡ true) ⊎ Stands stack e

-- an event on the way, one on from which the last comes
pub visit_pushes : (links : List Link) (e : ℕ) (begun done taken : List Bool) (order rest : List ℕ) (top a : ℕ) → IsVisiting links e begun done taken order (rest ++ top ∷ []) → LeadsTo (link_at links top) a → a < length done → IsVisiting links e begun done (set taken a true) order (rest ++ top ∷ [] ++ a ∷ [])
visit_pushes links e begun done taken order rest top a before leads below =
    record {
      done_many = before.done_many;
      taken_many = length-set taken a true ∙ before.taken_many;
      ordered = before.ordered;
      placed = before.placed;
      kept = before.kept;
      within = within;
      path = path;
      opened = λ b is. by_mark b (marked_cases taken a b is);
      goal = ⊎_elim (λ (is : is_marked done e ≡ true). inl is) (λ (there : Stands (rest ++ top ∷ []) e). inr (stands_push (rest ++ top ∷ []) a e there)) before.goal;
    }
  where
    many : length (rest ++ top ∷ []) ≡ length rest + 1
    many = length_push rest top

    more : length (rest ++ top ∷ [] ++ a ∷ []) ≡ length (rest ++ top ∷ []) + 1
    more = length_push (rest ++ top ∷ []) a

    inside : a < length begun
    inside = let same = before.done_many in omega arith

    at_top : get_or (rest ++ top ∷ []) (length rest) 0 ≡ top
    at_top = get_or_push rest top 0 (length rest) refl

    top_inside : top < length begun
    top_inside = subst (λ k. k < length begun) at_top (before.within (length rest) (omega (arith, many)))

    at_front : (j : ℕ) → j < length (rest ++ top ∷ []) → get_or (rest ++ top ∷ [] ++ a ∷ []) j 0 ≡ get_or (rest ++ top ∷ []) j 0
    at_front j low = get_or_append_left (rest ++ top ∷ []) (a ∷ []) 0 j low

    at_last : (j : ℕ) → j ≡ length (rest ++ top ∷ []) → get_or (rest ++ top ∷ [] ++ a ∷ []) j 0 ≡ a
    at_last j is = get_or_push (rest ++ top ∷ []) a 0 j (sym is)

    within : (j : ℕ) → j < length (rest ++ top ∷ [] ++ a ∷ []) → get_or (rest ++ top ∷ [] ++ a ∷ []) j 0 < length begun
    within j low =
        ⊎_elim
        (λ (last : j ≡ length (rest ++ top ∷ [])). subst (λ k. k < length begun) (sym (at_last j last)) inside)
        (λ (other : j ≡ length (rest ++ top ∷ []) → ⊥).
        let front : j < length (rest ++ top ∷ []) = omega (arith, more) in
        subst (λ k. k < length begun) (sym (at_front j front)) (before.within j front))
        (cases_eq j (length (rest ++ top ∷ [])))

    from_last : (pairs : List (ℕ × ℕ)) → Says links (length begun) pairs → (i : ℕ) → i < length (rest ++ top ∷ []) → reach pairs (a + 1) (get_or (rest ++ top ∷ []) i 0 + 1) ≡ true
    from_last pairs says i low =
        let step : reach pairs (a + 1) (top + 1) ≡ true = says.each top a top_inside inside leads in
        ⊎_elim
        (λ (here : i ≡ length rest). subst (λ k. reach pairs (a + 1) (k + 1) ≡ true) (sym (ap (λ k. get_or (rest ++ top ∷ []) k 0) here ∙ at_top)) step)
        (λ (other : i ≡ length rest → ⊥).
        let on : reach pairs (top + 1) (get_or (rest ++ top ∷ []) i 0 + 1) ≡ true = subst (λ k. reach pairs (k + 1) (get_or (rest ++ top ∷ []) i 0 + 1) ≡ true) at_top (before.path pairs says i (length rest) (omega (arith, many)) (omega (arith, many))) in
        reach-trans pairs (a + 1) (top + 1) (get_or (rest ++ top ∷ []) i 0 + 1) step on)
        (cases_eq i (length rest))

    path : (pairs : List (ℕ × ℕ)) → Says links (length begun) pairs → (i j : ℕ) → i < j → j < length (rest ++ top ∷ [] ++ a ∷ []) → reach pairs (get_or (rest ++ top ∷ [] ++ a ∷ []) j 0 + 1) (get_or (rest ++ top ∷ [] ++ a ∷ []) i 0 + 1) ≡ true
    path pairs says i j low high =
        let first : i < length (rest ++ top ∷ []) = omega (arith, more) in
        ⊎_elim
        (λ (last : j ≡ length (rest ++ top ∷ [])). ap (λ k. reach pairs (k + 1) (get_or (rest ++ top ∷ [] ++ a ∷ []) i 0 + 1)) (at_last j last) ∙ ap (λ k. reach pairs (a + 1) (k + 1)) (at_front i first) ∙ from_last pairs says i first)
        (λ (other : j ≡ length (rest ++ top ∷ []) → ⊥).
        let front : j < length (rest ++ top ∷ []) = omega (arith, more) in
        ap (λ k. reach pairs (k + 1) (get_or (rest ++ top ∷ [] ++ a ∷ []) i 0 + 1)) (at_front j front) ∙ ap (λ k. reach pairs (get_or (rest ++ top ∷ []) j 0 + 1) (k + 1)) (at_front i first) ∙ before.path pairs says i j low front)
        (cases_eq j (length (rest ++ top ∷ [])))

    by_mark : (b : ℕ) → (b ≡ a) ⊎ (is_marked taken b ≡ true) → (is_marked done b ≡ true) ⊎ Stands (rest ++ top ∷ [] ++ a ∷ []) b
    by_mark b (inl same) =
        inr (subst (Stands (rest ++ top ∷ [] ++ a ∷ [])) (sym same) (stands_last (rest ++ top ∷ []) a))
    by_mark b (inr is) =
        ⊎_elim (λ (is : is_marked done b ≡ true). inl is) (λ (there : Stands (rest ++ top ∷ []) b). inr (stands_push (rest ++ top ∷ []) a b there)) (before.opened b is)

-- the last event on the way is done
pub visit_does : (links : List Link) (e : ℕ) (begun done taken : List Bool) (order rest : List ℕ) (top : ℕ) → IsVisiting links e begun done taken order (rest ++ top ∷ []) → ((a : ℕ) → LeadsTo (link_at links top) a → a < length done → is_marked done a ≡ true) → IsVisiting links e begun (set done top true) taken (order ++ top ∷ []) rest
visit_does links e begun done taken order rest top before ready =
    record {
      done_many = length-set done top true ∙ before.done_many;
      taken_many = before.taken_many;
      ordered = record { below = below; behind = behind };
      placed = λ a is. by_mark a (marked_cases done top a is);
      kept = λ a is. marked_kept done top a top_done (before.kept a is);
      within = λ j low. subst (λ k. k < length begun) (at_rest j low) (before.within j (omega (arith, many)));
      path = λ pairs says i j low high. ap (λ k. reach pairs (k + 1) (get_or rest i 0 + 1)) (sym (at_rest j high)) ∙ ap (λ k. reach pairs (get_or (rest ++ top ∷ []) j 0 + 1) (k + 1)) (sym (at_rest i (omega arith))) ∙ before.path pairs says i j low (omega (arith, many));
      opened = λ a is. there a (before.opened a is);
      goal = there e before.goal;
    }
  where
    many : length (rest ++ top ∷ []) ≡ length rest + 1
    many = length_push rest top

    at_rest : (j : ℕ) → j < length rest → get_or (rest ++ top ∷ []) j 0 ≡ get_or rest j 0
    at_rest j low = get_or_append_left rest (top ∷ []) 0 j low

    top_inside : top < length begun
    top_inside =
        subst (λ k. k < length begun) (get_or_push rest top 0 (length rest) refl) (before.within (length rest) (omega (arith, many)))

    top_done : top < length done
    top_done = let same = before.done_many in let low = top_inside in omega arith

    order_many : length (order ++ top ∷ []) ≡ length order + 1
    order_many = length_push order top

    at_order : (j : ℕ) → j < length order → get_or (order ++ top ∷ []) j 0 ≡ get_or order j 0
    at_order j low = get_or_append_left order (top ∷ []) 0 j low

    at_end : (j : ℕ) → j ≡ length order → get_or (order ++ top ∷ []) j 0 ≡ top
    at_end j is = get_or_push order top 0 j (sym is)

    below : (j : ℕ) → j < length (order ++ top ∷ []) → get_or (order ++ top ∷ []) j 0 < length begun
    below j low =
        ⊎_elim
        (λ (last : j ≡ length order). subst (λ k. k < length begun) (sym (at_end j last)) top_inside)
        (λ (other : j ≡ length order → ⊥).
        let front : j < length order = omega (arith, order_many) in
        subst (λ k. k < length begun) (sym (at_order j front)) (before.ordered.below j front))
        (cases_eq j (length order))

    longer : (j a : ℕ) → j ≤ length order → StandsBefore order j a → StandsBefore (order ++ top ∷ []) j a
    longer j a le stands =
        let low = stands.1 in
        let front : stands.0 < length order = omega arith in
        (stands.0, low, at_order stands.0 front ∙ stands.2)

    behind : (j : ℕ) → j < length (order ++ top ∷ []) → (a : ℕ) → a < length begun → LeadsTo (link_at links (get_or (order ++ top ∷ []) j 0)) a → StandsBefore (order ++ top ∷ []) j a
    behind j low a inside leads =
        ⊎_elim
        (λ (last : j ≡ length order).
        let to_top : LeadsTo (link_at links top) a = subst (λ k. LeadsTo (link_at links k) a) (at_end j last) leads in
        let same = before.done_many in
        let stands = before.placed a (ready a to_top (omega arith)) in
        let earlier = stands.1 in
        longer j a (omega arith) (stands.0, omega arith, stands.2))
        (λ (other : j ≡ length order → ⊥).
        let front : j < length order = omega (arith, order_many) in
        longer j a (omega arith) (before.ordered.behind j front a inside (subst (λ k. LeadsTo (link_at links k) a) (at_order j front) leads)))
        (cases_eq j (length order))

    by_mark : (a : ℕ) → (a ≡ top) ⊎ (is_marked done a ≡ true) → Stands (order ++ top ∷ []) a
    by_mark a (inl same) = subst (Stands (order ++ top ∷ [])) (sym same) (stands_last order top)
    by_mark a (inr is) = stands_push order top a (before.placed a is)

    there : (a : ℕ) → (is_marked done a ≡ true) ⊎ Stands (rest ++ top ∷ []) a → (is_marked (set done top true) a ≡ true) ⊎ Stands rest a
    there a (inl is) = inl (marked_kept done top a top_done is)
    there a (inr stands) =
        ⊎_elim (λ (on : Stands rest a). inr on) (λ (same : top ≡ a). inl (ap (is_marked (set done top true)) (sym same) ∙ marked_same done top top_done)) (stands_cases rest top a stands)

-- an event that the way comes back to closes a cycle
pub visit_turns : (links : List Link) (e : ℕ) (begun done taken : List Bool) (order rest : List ℕ) (top a : ℕ) → IsVisiting links e begun done taken order (rest ++ top ∷ []) → LeadsTo (link_at links top) a → a < length done → is_marked done a ≡ false → is_marked taken a ≡ true → HasCycle links (length begun)
visit_turns links e begun done taken order rest top a before leads below undone was =
    ⊎_elim (λ (is : is_marked done a ≡ true). absurd (false≢true (sym undone ∙ is))) (λ (there : Stands (rest ++ top ∷ []) a). record { turns = λ pairs says. (a + 1, turn pairs says there) }) (before.opened a was)
  where
    many : length (rest ++ top ∷ []) ≡ length rest + 1
    many = length_push rest top

    at_top : get_or (rest ++ top ∷ []) (length rest) 0 ≡ top
    at_top = get_or_push rest top 0 (length rest) refl

    top_inside : top < length begun
    top_inside = subst (λ k. k < length begun) at_top (before.within (length rest) (omega (arith, many)))

    turn : (pairs : List (ℕ × ℕ)) → Says links (length begun) pairs → Stands (rest ++ top ∷ []) a → reach pairs (a + 1) (a + 1) ≡ true
    turn pairs says there =
        let same = before.done_many in
        let step : reach pairs (a + 1) (top + 1) ≡ true = says.each top a top_inside (omega arith) leads in
        let low = there.1 in
        let at : get_or (rest ++ top ∷ []) there.0 0 ≡ a = there.2 in
        ⊎_elim
        (λ (here : there.0 ≡ length rest).
        let is : top ≡ a = sym at_top ∙ ap (λ k. get_or (rest ++ top ∷ []) k 0) (sym here) ∙ at in
        subst (λ k. reach pairs (a + 1) (k + 1) ≡ true) is step)
        (λ (other : there.0 ≡ length rest → ⊥).
        let back = before.path pairs says there.0 (length rest) (omega (arith, many)) (omega (arith, many)) in
        let on : reach pairs (top + 1) (a + 1) ≡ true = ap (λ k. reach pairs (k + 1) (a + 1)) (sym at_top) ∙ ap (λ k. reach pairs (get_or (rest ++ top ∷ []) (length rest) 0 + 1) (k + 1)) (sym at) ∙ back in
        reach-trans pairs (a + 1) (top + 1) (a + 1) step on)
        (cases_eq there.0 (length rest))

nowhere : (a : ℕ) → Stands [] a → ⊥
nowhere a there = let low = there.1 in omega arith

visited_so : (links : List Link) (e : ℕ) (done done' taken' : List Bool) (order' : List ℕ) (b : Bool) → b ≡ true → Visits links e done done' taken' order' b → IsVisited links e done done' taken' order'
visited_so links e done done' taken' order' true is visits = visits
visited_so links e done done' taken' order' false is visits = absurd (false≢true is)

-- the first events up to e are done
pub record IsOrdering (links : List Link) (many e : ℕ) (done taken : List Bool) (order : List ℕ) : Type 0 where
  pub walk : IsWalk links many done taken order
  pub before : (a : ℕ) → a < e → is_marked done a ≡ true

pub ordering_starts : (links : List Link) (many : ℕ) (done taken : List Bool) (order : List ℕ) → IsWalk links many done taken [] → order ≡ [] → IsOrdering links many 0 done taken order
ordering_starts links many done taken order walk none =
    record { walk = subst (IsWalk links many done taken) (sym none) walk; before = λ a low. absurd (omega arith) }

-- marks of which none is set
pub unmarked : (links : List Link) (many : ℕ) (done taken : List Bool) → done ≡ replicate many false → taken ≡ replicate many false → IsWalk links (length done) done taken []
unmarked links many done taken is is' =
    record {
      done_many = refl;
      taken_many = ap length is' ∙ length-replicate many false ∙ sym (ap length is ∙ length-replicate many false);
      ordered = record { below = λ j low. absurd (omega arith); behind = λ j low a below leads. absurd (omega arith) };
      placed = λ a marked. absurd (false≢true (sym (none a) ∙ ap (λ m. is_marked m a) (sym is) ∙ marked));
      closed = λ a marked. absurd (false≢true (sym (none a) ∙ ap (λ m. is_marked m a) (sym is') ∙ marked));
    }
  where
    none : (a : ℕ) → is_marked (replicate many false) a ≡ false
    none a =
        ⊎_elim (λ (low : a < many). get_or-replicate many a false false low) (λ (past : many ≤ a). get_or_past (replicate many false) a false (omega (arith, length-replicate many false))) (cases_lt a many)

pub ordering_more : (links : List Link) (many e : ℕ) (done taken done' taken' : List Bool) (order order' : List ℕ) (b : Bool) → IsOrdering links many e done taken order → b ≡ true → Visits links e done done' taken' order' b → IsOrdering links many (e + 1) done' taken' order'
ordering_more links many e done taken done' taken' order order' b before is visits =
    let visited = visited_so links e done done' taken' order' b is visits in
    record {
      walk = subst (λ n. IsWalk links n done' taken' order') before.walk.done_many visited.walk;
      before = λ a low.
          ⊎_elim (λ (same : a ≡ e). ap (is_marked done') same ∙ visited.reached) (λ (other : a ≡ e → ⊥). visited.kept a (before.before a (omega arith))) (cases_eq a e);
    }

pub all_ordered : (links : List Link) (many : ℕ) (done taken : List Bool) (order : List ℕ) → IsOrdering links many many done taken order → IsOrder links many order
all_ordered links many done taken order last =
    record { ordered = last.walk.ordered; all = λ a below. last.walk.placed a (last.before a below) }

-- so many of the events can be ordered, and so many more cannot
pub record IsBetween (links : List Link) (many low high : ℕ) : Type 0 where
  pub apart : low < high
  pub most : high ≤ many
  pub order : List ℕ
  pub ordered : IsOrder links low order
  pub cycle : HasCycle links high

nothing_ordered : (links : List Link) → IsOrder links 0 []
nothing_ordered links =
    record {
      ordered = record { below = λ j low. absurd (omega arith); behind = λ j low a below leads. absurd (omega arith) };
      all = λ a below. absurd (omega arith);
    }

pub between_starts : (links : List Link) (many : ℕ) → HasCycle links many → IsBetween links many 0 many
between_starts links many cycle =
    record { apart = some many cycle; most = omega arith; order = []; ordered = nothing_ordered links; cycle = cycle }
  where
    some : (many : ℕ) → HasCycle links many → 0 < many
    some many cycle =
        ⊎_elim
        (λ (none : many ≡ 0).
        let turn = cycle.turns [] (record { each = λ e a below below' leads. absurd (omega arith) }) in
        absurd (false≢true turn.1))
        (λ (other : many ≡ 0 → ⊥). omega arith)
        (cases_eq many 0)
