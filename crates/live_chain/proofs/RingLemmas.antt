-- Rings that carry entries, and then the end mark.
use Rattle.std.proofs.Common.{◌≡◌, ℕ, ◌+◌, suc, List, [], ◌∷◌, ◌++◌, refl, sym, ap, ◌∙◌, arith}
use Rattle.kr_order.specs.declared.history.Entry.{Entry}
use Rattle.kr_order.specs.Prefix.{IsPrefix}
use Rattle.live_chain.specs.declared.ring.Passed.{Passed}
use Rattle.live_chain.specs.declared.ring.Passed.TheVariants.{Next, End}
use Rattle.live_chain.specs.declared.ring.Counted.{Counted}
use Rattle.live_chain.specs.declared.ring.Counted.TheVariants.{Applied}
use Rattle.live_chain.specs.Rings.{passed, whole, counts_to}

-- one entry more
pub passed-push : (entries : List Entry) (entry : Entry) → passed (entries ++ entry ∷ []) ≡ passed entries ++ Next entry ∷ []
passed-push [] entry = refl
passed-push (e ∷ entries) entry = ap (λ items. Next e ∷ items) (passed-push entries entry)

-- one count more
pub counts_to-more : (n : ℕ) → counts_to (n + 1) ≡ counts_to n ++ Applied (n + 1) ∷ []
counts_to-more n =
    let next : suc n ≡ n + 1 = omega arith in
    ap counts_to (sym next) ∙ ap (λ k. counts_to n ++ Applied k ∷ []) next

-- where all of a ring came out with its end mark, what came out is what went in
whole_with : (xs ys : List Entry) (more : List Passed) → whole ys ≡ whole xs ++ more → xs ≡ ys
whole_with [] [] more is = refl
whole_with [] (y ∷ ys) more is = absurd (cc)
whole_with (x ∷ xs) [] more is = absurd (cc)
whole_with (x ∷ xs) (y ∷ ys) more is =
    let heads : x ≡ y = cc in
    let tails : whole ys ≡ whole xs ++ more = cc in
    let rest : xs ≡ ys = whole_with xs ys more tails in
    cc

pub whole_once : (xs ys : List Entry) → IsPrefix (whole xs) (whole ys) → xs ≡ ys
whole_once xs ys begins = whole_with xs ys begins.more begins.is
