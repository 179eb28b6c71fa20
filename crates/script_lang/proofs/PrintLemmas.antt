-- What was there before stays in front, also where only a part of a text was put behind it.
use Rattle.std.proofs.Common.{◌≡◌, List, ℕ, ◌++◌, Result, Ok, Err, OnOk, OnErr, length, take, drop, sym, ap, ◌∙◌, append_assoc}
use Rattle.std.proofs.lemmas.List.{take-append-drop}
use Rattle.std.proofs.Math.Seq.{take-append_seam}
use Rattle.script_lang.specs.Printing.{Keeps}

-- what keeps a piece and what was before it keeps what was before it
pub keeps_front : (before piece middle now : List ℕ) → middle ≡ before ++ piece → Keeps middle now → Keeps before now
keeps_front before piece middle now is keeps =
    let rest : List ℕ = drop (length middle) now in
    let whole : now ≡ before ++ (piece ++ rest) = sym (take-append-drop (length middle) now) ∙ ap (λ m. m ++ rest) (keeps.front ∙ is) ∙ append_assoc before piece rest in
    record { front = ap (take (length before)) whole ∙ take-append_seam before (piece ++ rest) }

-- the same of the answer of a call that may fail
pub keeps_front_on_err : {T E : Type 0} (result : Result T E) (before piece middle now : List ℕ) → middle ≡ before ++ piece → OnErr result (Keeps middle now) → OnErr result (Keeps before now)
keeps_front_on_err (Ok _) before piece middle now is _ = tt
keeps_front_on_err (Err _) before piece middle now is keeps = keeps_front before piece middle now is keeps

-- what holds holds after an error too
pub on_err : {T E : Type 0} {P : Type 0} (result : Result T E) → P → OnErr result P
on_err (Ok _) holds = tt
on_err (Err _) holds = holds

-- pieces put one behind the other
pub behind_front : {T E : Type 0} (result : Result T E) (old front piece whole middle now : List ℕ) → middle ≡ old ++ front → front ++ piece ≡ whole → OnOk result (now ≡ middle ++ piece) → OnOk result (now ≡ old ++ whole)
behind_front (Ok _) old front piece whole middle now is made done =
    done ∙ ap (λ m. m ++ piece) is ∙ append_assoc old front piece ∙ ap (λ w. old ++ w) made
behind_front (Err _) old front piece whole middle now is made _ = tt
