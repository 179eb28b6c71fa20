-- One more of the nodes that a cluster begins with.
use Rattle.std.proofs.Common.{◌≡◌, ℕ, ◌+◌, List, [], ◌∷◌, ◌++◌, map, sym, ap, ◌∙◌}
use Rattle.std.proofs.lemmas.List.{map-append}
use Rattle.kr_order.specs.Numbers.{numbers_to}
use Rattle.kr_world.proofs.rounds.RoundLoopLemmas.{numbers_to-next}

pub one_more : {X : Type 0} (f : ℕ → X) (n : ℕ) (xs : List X) → xs ≡ map f (numbers_to n) → xs ++ f (n + 1) ∷ [] ≡ map f (numbers_to (n + 1))
one_more f n xs is =
    ap (λ l. l ++ f (n + 1) ∷ []) is ∙ sym (map-append f (numbers_to n) ((n + 1) ∷ [])) ∙ ap (map f) (sym (numbers_to-next n))
