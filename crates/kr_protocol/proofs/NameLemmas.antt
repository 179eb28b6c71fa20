-- Who is named by a view.
use Rattle.std.proofs.Common.{◌≡◌, ◌≢◌, ◌⊎◌, ℕ, ◌+◌, ◌<◌, ◌≤◌, suc, zero, Bool, true, false, cond, not, ◌||◌, eqb, ltb, List, [], ◌∷◌, ◌++◌, length, get_or, refl, sym, ap, ◌∙◌, arith, inl, inr}
use Rattle.std.specs.Prelude.{Option, None, Some, is_some, position}
use Rattle.std.specs.List.{position_or_len}
use Rattle.std.proofs.lemmas.Bool.{eqb-true, eq-eqb, ne_eqb, cases_lt, lt-ltb, le-ltb}
use Rattle.kr_order.specs.declared.ids.ServerId.{ServerId}
use Rattle.kr_order.specs.declared.view.View.{View}
use Rattle.kr_order.specs.View.{in_chain, is_joiner, names}
use Rattle.kr_protocol.specs.Manager.{members_but, joiner_but}

-- the server is among these
abbrev pub member : List ServerId → ServerId → Bool
member [] id = false
member (one ∷ more) id = eqb one.0 id.0 || member more id

-- an index behind one more is within where it was
same_found : (k n : ℕ) → is_some (cond (ltb (1 + k) (suc n)) (Some (1 + k)) None) ≡ is_some (cond (ltb k n) (Some k) None)
same_found k n =
    elim (cases_lt k n) [
      | inl lt ↦ rw (lt-ltb (1 + k) (suc n) (omega arith), lt-ltb k n lt) refl
      | inr le ↦ rw (le-ltb (1 + k) (suc n) (omega arith), le-ltb k n le) refl
    ]

found_member : (chain : List ServerId) (id : ServerId) → is_some (position (λ one. eqb one.0 id.0) chain) ≡ member chain id
found_member [] id = refl
found_member (one ∷ more) id = by_test (eqb one.0 id.0) refl (found_member more id)
  where
    by_test : (test : Bool) → eqb one.0 id.0 ≡ test → is_some (position (λ other. eqb other.0 id.0) more) ≡ member more id
        → is_some (position (λ other. eqb other.0 id.0) (one ∷ more)) ≡ (test || member more id)
    by_test true is rest = rw (is, lt-ltb 0 (suc (length more)) (omega arith)) refl
    by_test false is rest = rw is (same_found (position_or_len (λ other. eqb other.0 id.0) more) (length more) ∙ rest)

pub in_chain-member : (view : View) (id : ServerId) → in_chain view id ≡ member view.chain id
in_chain-member view id = found_member view.chain id

pub same_server : (a b : ServerId) → a.0 ≡ b.0 → a ≡ b
same_server a b is = let id : ℕ → ServerId = λ n. record { 0 = n } in ap id is

-- one that is behind another is among both
pub member-push : (chain : List ServerId) (last id : ServerId) → member (chain ++ last ∷ []) id ≡ (member chain id || eqb last.0 id.0)
member-push [] last id = by_test (eqb last.0 id.0)
  where
    by_test : (test : Bool) → (test || false) ≡ test
    by_test true = refl
    by_test false = refl
member-push (one ∷ more) last id = by_test (eqb one.0 id.0) (member-push more last id)
  where
    by_test : (test : Bool) → member (more ++ last ∷ []) id ≡ (member more id || eqb last.0 id.0)
        → (test || member (more ++ last ∷ []) id) ≡ ((test || member more id) || eqb last.0 id.0)
    by_test true rest = refl
    by_test false rest = rest

-- another is among all but one where it was
pub member-but : (chain : List ServerId) (gone id : ServerId) → gone.0 ≢ id.0 → member (members_but chain gone) id ≡ member chain id
member-but [] gone id other = refl
member-but (one ∷ more) gone id other = by_test (eqb one.0 gone.0) refl (member-but more gone id other)
  where
    by_test : (test : Bool) → eqb one.0 gone.0 ≡ test → member (members_but more gone) id ≡ member more id
        → member (cond (not test) (one ∷ members_but more gone) (members_but more gone)) id ≡ (eqb one.0 id.0 || member more id)
    by_test true is rest =
        let same = eqb-true one.0 gone.0 is in
        let differs : eqb one.0 id.0 ≡ false = ne_eqb one.0 id.0 (λ same_id. other (sym same ∙ same_id)) in
        rest ∙ ap (λ b. b || member more id) (sym differs)
    by_test false is rest = ap (λ b. eqb one.0 id.0 || b) rest

-- that one is not
pub gone-member : (chain : List ServerId) (gone : ServerId) → member (members_but chain gone) gone ≡ false
gone-member [] gone = refl
gone-member (one ∷ more) gone = by_test (eqb one.0 gone.0) refl (gone-member more gone)
  where
    by_test : (test : Bool) → eqb one.0 gone.0 ≡ test → member (members_but more gone) gone ≡ false
        → member (cond (not test) (one ∷ members_but more gone) (members_but more gone)) gone ≡ false
    by_test true is rest = rest
    by_test false is rest = ap (λ b. b || member (members_but more gone) gone) is ∙ rest

-- the same of the joiner
pub joiner-but : (joiner : Option ServerId) (gone id : ServerId) → gone.0 ≢ id.0 → is_joiner (joiner_but joiner gone) id ≡ is_joiner joiner id
joiner-but None gone id other = refl
joiner-but (Some joiner) gone id other = by_test (eqb joiner.0 gone.0) refl
  where
    by_test : (test : Bool) → eqb joiner.0 gone.0 ≡ test → is_joiner (cond test None (Some joiner)) id ≡ eqb joiner.0 id.0
    by_test true is =
        let same = eqb-true joiner.0 gone.0 is in sym (ne_eqb joiner.0 id.0 (λ same_id. other (sym same ∙ same_id)))
    by_test false is = refl

pub gone-joiner : (joiner : Option ServerId) (gone : ServerId) → is_joiner (joiner_but joiner gone) gone ≡ false
gone-joiner None gone = refl
gone-joiner (Some joiner) gone = by_test (eqb joiner.0 gone.0) refl
  where
    by_test : (test : Bool) → eqb joiner.0 gone.0 ≡ test → is_joiner (cond test None (Some joiner)) gone ≡ false
    by_test true is = refl
    by_test false is = is

-- who stands at an index is among them
pub member-at : (chain : List ServerId) (k : ℕ) (d : ServerId) → k < length chain → member chain (get_or chain k d) ≡ true
member-at [] k d lt = absurd (omega arith)
member-at (one ∷ more) zero d lt = ap (λ b. b || member more one) (eq-eqb one.0 one.0 refl)
member-at (one ∷ more) (suc k) d lt =
    ap (λ b. eqb one.0 (get_or more k d).0 || b) (member-at more k d (omega arith)) ∙ or_true (eqb one.0 (get_or more k d).0)
  where
    or_true : (test : Bool) → (test || true) ≡ true
    or_true true = refl
    or_true false = refl

-- who is named is a member, or joins
pub named_cases : (view : View) (id : ServerId) → names view id ≡ true → (member view.chain id ≡ true) ⊎ (is_joiner view.joiner id ≡ true)
named_cases view id named = by_test (member view.chain id) refl (ap (λ b. b || is_joiner view.joiner id) (sym (in_chain-member view id)) ∙ named)
  where
    by_test : (test : Bool) → member view.chain id ≡ test → (test || is_joiner view.joiner id) ≡ true
        → (member view.chain id ≡ true) ⊎ (is_joiner view.joiner id ≡ true)
    by_test true is named = inl is
    by_test false is named = inr named

-- who joins is named
pub joiner_named : (view : View) (id : ServerId) → is_joiner view.joiner id ≡ true → names view id ≡ true
joiner_named view id is = by_test (in_chain view id)
  where
    by_test : (test : Bool) → (test || is_joiner view.joiner id) ≡ true
    by_test true = refl
    by_test false = is

-- no more are left without one
pub fewer : (chain : List ServerId) (id : ServerId) → length (members_but chain id) ≤ length chain
fewer [] id = omega arith
fewer (one ∷ more) id = by_test (eqb one.0 id.0) (fewer more id)
  where
    by_test : (test : Bool) → length (members_but more id) ≤ length more
        → length (cond (not test) (one ∷ members_but more id) (members_but more id)) ≤ suc (length more)
    by_test true rest = omega arith
    by_test false rest = omega arith
