-- Lists that others begin with.
use Rattle.std.proofs.Common.{◌≡◌, ℕ, ◌<◌, ◌≤◌, List, [], ◌∷◌, ◌++◌, length, take, drop, map, get_or, refl, sym, ap, ◌∙◌, subst, arith, append_assoc}
use Rattle.std.specs.Prelude.{fold}
use Rattle.std.proofs.lemmas.List.{append-nil, length-append, take-append-drop, take_at, take-take, map-append, get_or_append_left}
use Rattle.kr_order.specs.Prefix.{IsPrefix}

pub IsPrefix-refl : {X : Type 0} (xs : List X) → IsPrefix xs xs
IsPrefix-refl xs = record { more = []; is = sym (append-nil xs) }

pub IsPrefix-nil : {X : Type 0} (xs : List X) → IsPrefix [] xs
IsPrefix-nil xs = record { more = xs; is = refl }

pub IsPrefix-append : {X : Type 0} (xs more : List X) → IsPrefix xs (xs ++ more)
IsPrefix-append xs more = record { more = more; is = refl }

pub IsPrefix-trans : {X : Type 0} (xs ys zs : List X) → IsPrefix xs ys → IsPrefix ys zs → IsPrefix xs zs
IsPrefix-trans xs ys zs one two =
    record { more = one.more ++ two.more; is = two.is ∙ ap (λ l. l ++ two.more) one.is ∙ append_assoc xs one.more two.more }

pub IsPrefix-take : {X : Type 0} (n : ℕ) (xs : List X) → IsPrefix (take n xs) xs
IsPrefix-take n xs = record { more = drop n xs; is = sym (take-append-drop n xs) }

pub IsPrefix-map : {X Y : Type 0} (f : X → Y) (xs ys : List X) → IsPrefix xs ys → IsPrefix (map f xs) (map f ys)
IsPrefix-map f xs ys front = record { more = map f front.more; is = ap (map f) front.is ∙ map-append f xs front.more }

-- a front is no longer than the list
pub IsPrefix-length : {X : Type 0} (xs ys : List X) → IsPrefix xs ys → length xs ≤ length ys
IsPrefix-length xs ys front = omega (arith, ap length front.is, length-append xs front.more)

-- a front is as much of the list as it is long
pub take_front : {X : Type 0} (xs ys : List X) → IsPrefix xs ys → take (length xs) ys ≡ xs
take_front xs ys front = ap (take (length xs)) front.is ∙ take_at xs front.more (length xs) refl

-- of two fronts of a list the shorter is a front of the longer
pub shorter_front : {X : Type 0} (xs ys zs : List X) → IsPrefix xs zs → IsPrefix ys zs → length xs ≤ length ys → IsPrefix xs ys
shorter_front xs ys zs one two le =
    let same : take (length xs) ys ≡ xs = ap (take (length xs)) (sym (take_front ys zs two)) ∙ take-take (length xs) (length ys) zs le ∙ take_front xs zs one in
    subst (λ l. IsPrefix l ys) same (IsPrefix-take (length xs) ys)

-- what only adds to a list, once for each item, leaves the list as a front
pub IsPrefix-fold : {X A : Type 0} (f : List X → A → List X) → ((xs : List X) (a : A) → IsPrefix xs (f xs a)) → (xs : List X) (items : List A) → IsPrefix xs (fold f xs items)
IsPrefix-fold f each xs [] = IsPrefix-refl xs
IsPrefix-fold f each xs (a ∷ items) = IsPrefix-trans xs (f xs a) (fold f (f xs a) items) (each xs a) (IsPrefix-fold f each (f xs a) items)
