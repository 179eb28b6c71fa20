-- What a source gave of what it was known to have.
use Rattle.std.proofs.Common.{◌≡◌, ℕ, ◌≤◌, List, ◌++◌, length, ap, ◌∙◌, subst, arith}
use Rattle.std.specs.Prelude.{Option, None, Some}
use Rattle.std.specs.Io.KnownBytes.{Consumes, IsAtEnd}
use Rattle.std.proofs.lemmas.List.{length-append, append-nil}
use Rattle.kr_text.specs.Reads.{GaveAll, GaveSome}
use Rattle.kronos_runs.specs.Outside.{Outside, IsTooLong, input_limit}

pub some_of_all : (left left' : Option (List ℕ)) (bytes : List ℕ) → GaveAll input_limit left left' bytes → GaveSome input_limit left left'
some_of_all left left' bytes all = record { bytes = bytes; taken = all.taken; fits = all.fits }

-- a source that is read to its end gave all that it had
pub all_given : (input : List ℕ) (left' : Option (List ℕ)) (bytes : List ℕ) → Consumes (Some input) left' bytes → IsAtEnd left' → input ≡ bytes
all_given input None bytes taken ended = absurd taken
all_given input (Some rest) bytes taken ended = taken ∙ ap (λ r. bytes ++ r) ended ∙ append-nil bytes

-- a source gives no more than it had
no_more_given : (input : List ℕ) (left' : Option (List ℕ)) (bytes : List ℕ) → Consumes (Some input) left' bytes → length bytes ≤ length input
no_more_given input None bytes taken = absurd taken
no_more_given input (Some rest) bytes taken = omega (arith, ap length taken, length-append bytes rest)

-- so it is what was told of it
pub whole_given : (input bytes : List ℕ) (left left' : Option (List ℕ)) → left ≡ Some input → GaveAll input_limit left left' bytes → input ≡ bytes
whole_given input bytes left left' told whole =
    all_given input left' bytes (subst (λ l. Consumes l left' bytes) told whole.taken) whole.ended

-- an input within the limit is not too long
pub not_too_long : (input : List ℕ) (asked : Type 0) (before after : Outside) → before.left ≡ Some input → length input ≤ input_limit → IsTooLong asked before after → ⊥
not_too_long input asked before after told fits long =
    let taken : Consumes (Some input) after.left long.over.bytes = subst (λ l. Consumes l after.left long.over.bytes) told long.over.taken in
    let over = long.over.over in
    absurd (omega (arith, no_more_given input after.left long.over.bytes taken))
