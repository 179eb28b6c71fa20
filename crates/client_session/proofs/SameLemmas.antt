-- Two chains with the same servers in one order are one chain.
use Rattle.std.proofs.Common.{◌≡◌, true, List, [], ◌∷◌, refl, ap, ◌∙◌, arith}
use Rattle.std.proofs.lemmas.Bool.{and_parts, false≢true}
use Rattle.kr_order.specs.declared.ids.ServerId.{ServerId}
use Rattle.kr_order.specs.contracts.ids.ServerIdPartialEq.TheImpl.{eq-value}
use lib.Pointwise.{pointwise}

one_server : (x y : ServerId) → eq-value.it x y ≡ true → x ≡ y
one_server x y = grind arith

pub one_chain : (xs ys : List ServerId) → pointwise eq-value.it xs ys ≡ true → xs ≡ ys
one_chain [] [] _ = refl
one_chain [] (y ∷ ys) is = absurd (false≢true is)
one_chain (x ∷ xs) [] is = absurd (false≢true is)
one_chain (x ∷ xs) (y ∷ ys) is =
    let (first, others) = and_parts (eq-value.it x y) (pointwise eq-value.it xs ys) is in
    ap (λ s. s ∷ xs) (one_server x y first) ∙ ap (λ l. y ∷ l) (one_chain xs ys others)
