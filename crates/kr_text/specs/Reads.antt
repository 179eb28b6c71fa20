-- What reading a whole input gives, and what it took from the source.
use Rattle.std.specs.Prelude.{◌≡◌, ℕ, ◌+◌, ◌≤◌, List, length, Option, Result, Ok, Err}
use Rattle.std.specs.declared.vec.Vec.{Vec}
use Rattle.std.specs.declared.alloc.Global.{Global}
use Rattle.std.specs.Io.KnownBytes.{Consumes, IsAtEnd}
use Rattle.kr_text.specs.Causes.{Rose}
use Rattle.kr_text.specs.declared.read.ReadStop.{ReadStop}
use Rattle.kr_text.specs.declared.read.ReadStop.TheVariants.{Fault, TooLong, NoMemory}

-- the source gave these bytes, at most `limit`, and has no more
pub record GaveAll (limit : ℕ) (left left' : Option (List ℕ)) (bytes : List ℕ) : Type 0 where
  pub taken : Consumes left left' bytes
  pub ended : IsAtEnd left'
  pub fits : length bytes ≤ limit

-- the source gave at most `limit` bytes
pub record GaveSome (limit : ℕ) (left left' : Option (List ℕ)) : Type 0 where
  pub bytes : List ℕ
  pub taken : Consumes left left' bytes
  pub fits : length bytes ≤ limit

-- the source gave one byte more than `limit`
pub record GaveTooMany (limit : ℕ) (left left' : Option (List ℕ)) : Type 0 where
  pub bytes : List ℕ
  pub taken : Consumes left left' bytes
  pub over : length bytes ≡ limit + 1

-- the count stays where no read failed
abbrev pub CountsRightly : Result (Vec ℕ Global) ReadStop → ℕ → ℕ → Type 0
CountsRightly (Err Fault) faults faults' = Rose faults faults'
CountsRightly answer faults faults' = faults' ≡ faults

-- what reading a whole input of at most `limit` bytes answers
abbrev pub Reads : ℕ → Result (Vec ℕ Global) ReadStop → Option (List ℕ) → Option (List ℕ) → Type 0
Reads limit (Ok bytes) left left' = GaveAll limit left left' bytes.items
Reads limit (Err TooLong) left left' = GaveTooMany limit left left'
Reads limit (Err other) left left' = GaveSome limit left left'
