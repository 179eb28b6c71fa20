-- That an answer which blames the outside has a fault behind it.
use Rattle.std.specs.Prelude.{ℕ, ◌+◌, ◌-◌, ◌^◌, ◌≡◌, ◌≤◌, min, Result, OnOk, OnErr}

-- a count of faults that rose, or stands at its type's end
abbrev pub Rose : ℕ → ℕ → Type 0
Rose before now = min (before + 1) (2 ^ 64 - 1) ≤ now

-- the count never falls, stays where the call succeeded, and rose where it failed
pub record HasCause {T E : Type 0} (before now : ℕ) (result : Result T E) : Type 0 where
  pub later : before ≤ now
  pub calm : OnOk result (now ≡ before)
  pub failed : OnErr result (Rose before now)
