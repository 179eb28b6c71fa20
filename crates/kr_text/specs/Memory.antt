-- The sources and sinks in memory, and the calls that fail.
use Rattle.std.specs.Prelude.{◌≡◌, ℕ, ◌+◌, ◌-◌, ◌^◌, ◌<◌, min, List, ◌++◌, length, take, drop, Result, MatchResult}

-- the next number after n, or the end of `u64`
abbrev pub count_on : ℕ → ℕ
count_on n = min (n + 1) (2 ^ 64 - 1)

-- a source of the bytes `left`, after `calls` calls and `faults` faults; the calls numbered in `fails` fail
pub record FailingReads : Type 0 where
  pub left : List ℕ
  pub fails : List ℕ
  pub calls : ℕ
  pub faults : ℕ

-- a read took the bytes that it gave, or counted a fault
abbrev pub AfterRead : {E : Type 0} → FailingReads → Result ℕ E → FailingReads → Type 0
AfterRead old result new = MatchResult result
    (λ count. new ≡ record old { left = drop count old.left; calls = count_on old.calls })
    (λ _. new ≡ record old { calls = count_on old.calls; faults = count_on old.faults })

-- a sink with room for `room` bytes in all, after `calls` calls and `faults` faults; the calls numbered in `fails` fail
pub record FailingWrites : Type 0 where
  pub held : List ℕ
  pub room : ℕ
  pub fails : List ℕ
  pub calls : ℕ
  pub faults : ℕ

-- there is a byte to write, and no room for it
pub record IsFull (sink : FailingWrites) (piece : List ℕ) : Type 0 where
  pub full : length sink.held ≡ sink.room
  pub some : 0 < length piece

-- a write kept the bytes that it took, or counted a fault
abbrev pub AfterWrite : {E : Type 0} → FailingWrites → List ℕ → Result ℕ E → FailingWrites → Type 0
AfterWrite old piece result new = MatchResult result
    (λ count. new ≡ record old { held = old.held ++ take count piece; calls = count_on old.calls })
    (λ _. new ≡ record old { calls = count_on old.calls; faults = count_on old.faults })
