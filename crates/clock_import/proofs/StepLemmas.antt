-- Paths over pairs: each goes over a last pair, and pairs that lead from event to event say so.
use Rattle.std.proofs.Common.{◌≡◌, ◌⊎◌, ℕ, ◌-◌, ◌<◌, true, List, [], ◌∷◌, ◌++◌, length, get_or, refl, sym, ap, ◌∙◌, subst, inl, inr, arith, append_assoc}
use Rattle.std.specs.Prelude.{All, reverse}
use Rattle.std.proofs.lemmas.List.{get_or-reverse, length-reverse, length_push, get_or_push}
use Rattle.std.proofs.lemmas.List.Elements.{All-head, All-tail, All-get_or, All-from_get_or}
use Rattle.kr_order.specs.Prefix.{IsPrefix}
use Rattle.kr_order.specs.Order.{reach}
use Rattle.kr_order.proofs.PathLemmas.{leads, IsOrLeads, leads_cases, leads_old, leads_over}
use Rattle.kr_order.proofs.OrderLemmas.{reach-path, reach-from_path, reach_more, reach_pair}

-- the pair is one of these
pub record IsIn (pairs : List (ℕ × ℕ)) (pair : ℕ × ℕ) : Type 0 where
  pub front : List (ℕ × ℕ)
  pub back : List (ℕ × ℕ)
  pub is : pairs ≡ front ++ pair ∷ back

pub IsIn-head : (pair : ℕ × ℕ) (more : List (ℕ × ℕ)) → IsIn (pair ∷ more) pair
IsIn-head pair more = record { front = []; back = more; is = refl }

pub IsIn-left : (xs ys : List (ℕ × ℕ)) (pair : ℕ × ℕ) → IsIn xs pair → IsIn (xs ++ ys) pair
IsIn-left xs ys pair there =
    record { front = there.front; back = there.back ++ ys; is = ap (λ l. l ++ ys) there.is ∙ append_assoc there.front (pair ∷ there.back) ys }

pub IsIn-right : (xs ys : List (ℕ × ℕ)) (pair : ℕ × ℕ) → IsIn ys pair → IsIn (xs ++ ys) pair
IsIn-right xs ys pair there =
    record { front = xs ++ there.front; back = there.back; is = ap (λ l. xs ++ l) there.is ∙ sym (append_assoc xs there.front (pair ∷ there.back)) }

-- a pair of the order puts its first event before its second
pub reach_in : (pairs : List (ℕ × ℕ)) (x y : ℕ) → IsIn pairs (x, y) → reach pairs x y ≡ true
reach_in pairs x y there =
    let front : IsPrefix (there.front ++ (x, y) ∷ []) pairs = record { more = there.back; is = there.is ∙ sym (append_assoc there.front ((x, y) ∷ []) there.back) } in
    let many = length_push there.front (x, y) in
    let last : get_or (there.front ++ (x, y) ∷ []) (length there.front) (0, 0) ≡ (x, y) = get_or_push there.front (x, y) (0, 0) (length there.front) refl in
    let pair = reach_pair (there.front ++ (x, y) ∷ []) (length there.front) (0, 0) (omega arith) in
    reach_more (there.front ++ (x, y) ∷ []) pairs x y front (subst (λ (p : ℕ × ℕ). reach (there.front ++ (x, y) ∷ []) p.0 p.1 ≡ true) last pair)

pub All-reverse : {X : Type 0} (P : X → Type 0) (xs : List X) (d : X) → All P xs → All P (reverse xs)
All-reverse P xs d each =
    All-from_get_or P (reverse xs) d (λ i below. let within : i < length xs = omega (arith, length-reverse xs) in subst P (sym (get_or-reverse xs i d within)) (All-get_or P xs (length xs - 1 - i) d (omega arith) each))

-- the last pair on the way from a to b
pub record HasLast (P : ℕ × ℕ → Type 0) (newest : List (ℕ × ℕ)) (a b : ℕ) : Type 0 where
  pub via : ℕ
  pub last : P (via, b)
  pub to : IsOrLeads newest a via

last_pair : (P : ℕ × ℕ → Type 0) (newest : List (ℕ × ℕ)) (a b : ℕ) → All P newest → leads newest a b ≡ true → HasLast P newest a b
last_pair P [] a b each path = absurd (cc)
last_pair P (pair ∷ older) a b each path =
    elim (leads_cases pair older a b path) [
      | inl old ↦
          let before = last_pair P older a b (All-tail P pair older each) old in
          record { via = before.via; last = before.last; to = more before.via before.to }
      | inr over ↦ by_end (λ on. last_pair P older pair.1 b (All-tail P pair older each) on) over.to over.on
    ]
  where
    more : (via : ℕ) → IsOrLeads older a via → IsOrLeads (pair ∷ older) a via
    more via (inl same) = inl same
    more via (inr there) = inr (leads_old pair older a via there)

    by_end : (leads older pair.1 b ≡ true → HasLast P older pair.1 b) → IsOrLeads older a pair.0 → IsOrLeads older pair.1 b → HasLast P (pair ∷ older) a b
    by_end on_older to (inl same) =
        record { via = pair.0; last = subst (λ e. P (pair.0, e)) same (All-head P pair older each); to = more pair.0 to }
    by_end on_older to (inr on) =
        let before = on_older on in
        record { via = before.via; last = before.last; to = inr (leads_over pair older a before.via (record { to = to; on = before.to })) }

-- a is b, or is before b
abbrev pub IsOrReaches : List (ℕ × ℕ) → ℕ → ℕ → Type 0
IsOrReaches pairs a b = (a ≡ b) ⊎ (reach pairs a b ≡ true)

pub record LastStep (P : ℕ × ℕ → Type 0) (pairs : List (ℕ × ℕ)) (a b : ℕ) : Type 0 where
  pub via : ℕ
  pub last : P (via, b)
  pub to : IsOrReaches pairs a via

pub last_step : (P : ℕ × ℕ → Type 0) (pairs : List (ℕ × ℕ)) (a b : ℕ) → All P pairs → reach pairs a b ≡ true → LastStep P pairs a b
last_step P pairs a b each path =
    let last = last_pair P (reverse pairs) a b (All-reverse P pairs (0, 0) each) (reach-path pairs a b path) in
    record { via = last.via; last = last.last; to = as_reach last.via last.to }
  where
    as_reach : (via : ℕ) → IsOrLeads (reverse pairs) a via → IsOrReaches pairs a via
    as_reach via (inl same) = inl same
    as_reach via (inr there) = inr (reach-from_path pairs a via there)
