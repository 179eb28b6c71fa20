-- What a sink took in several pieces, and what a source gave in several reads.
use Rattle.std.proofs.Common.{◌≡◌, ℕ, ◌+◌, ◌≤◌, List, ◌++◌, length, take, drop, sym, subst, length-append}
use Rattle.std.specs.Prelude.{Option}
use Rattle.std.specs.Io.KnownBytes.{Appends, Consumes}
use Rattle.std.proofs.KnownBytes.{Appends-trans, Consumes-trans}
use Rattle.std.proofs.Math.Seq.{take-add}
use Rattle.kr_text.specs.Reads.{GaveSome, GaveTooMany}

-- a piece of the rest, taken behind a front of the text, makes a longer front
pub Appends-piece : (a b c : Option (List ℕ)) (text rest : List ℕ) (done count : ℕ)
    → Appends a b (take done text) → rest ≡ drop done text → Appends b c (take count rest)
    → Appends a c (take (done + count) text)
Appends-piece a b c text rest done count front behind piece =
    let moved = subst (λ (l : List ℕ). Appends b c (take count l)) behind piece in
    subst (λ (l : List ℕ). Appends a c l) (sym (take-add done count text))
    (Appends-trans a b c (take done text) (take count (drop done text)) front moved)

-- a read behind bytes that were read, where both are at most the limit
pub gave_some : (limit : ℕ) (a b c : Option (List ℕ)) (bytes piece : List ℕ)
    → Consumes a b bytes → Consumes b c piece → length bytes + length piece ≤ limit → GaveSome limit a c
gave_some limit a b c bytes piece front more fits = record {
  bytes = bytes ++ piece;
  taken = Consumes-trans a b c bytes piece front more;
  fits = simp length-append fits;
}

-- the same, where both are one byte past it
pub gave_too_many : (limit : ℕ) (a b c : Option (List ℕ)) (bytes piece : List ℕ)
    → Consumes a b bytes → Consumes b c piece → length bytes + length piece ≡ limit + 1 → GaveTooMany limit a c
gave_too_many limit a b c bytes piece front more over = record {
  bytes = bytes ++ piece;
  taken = Consumes-trans a b c bytes piece front more;
  over = simp length-append over;
}
