-- What always holds of a bag's parts.
use Rattle.std.specs.Prelude.{◌≡◌, ◌≤◌, ℕ, ◌^◌, ◌-◌, Bool, List, length, min, sum_by, All}
use Rattle.kr_wire.specs.Decoding.{IsSpelling}
use Rattle.net_bag.specs.Index.{IsIndexed}

pub record IsKept (spellings : List (List ℕ)) (lost delivered : List Bool) (closed : List ℕ) (bytes : ℕ) : Type 0 where
  pub each : All IsSpelling spellings
  pub lost_each : length lost ≡ length spellings
  pub delivered_each : length delivered ≡ length spellings
  pub indexed : IsIndexed closed lost delivered
  pub few : length spellings ≤ 2 ^ 56
  pub counted : bytes ≡ min (sum_by (λ spelling. length spelling) spellings) (2 ^ 64 - 1)
