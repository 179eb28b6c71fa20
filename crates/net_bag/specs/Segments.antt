-- Lists of bytes that lie in segments: where each lies, and which segment the next one is put into.
use Rattle.std.specs.Prelude.{◌≡◌, ◌≤◌, ◌<◌, ◌⊎◌, ℕ, ◌+◌, ◌^◌, ◌++◌, ◌∷◌, [], List, length, take, drop, All, slice_index_or}
use Rattle.net_bag.specs.declared.segments.Place.{Place}

-- the bytes that lie there
abbrev pub bytes_at : List (List ℕ) → Place → List ℕ
bytes_at segments place = take place.len (drop place.start (slice_index_or segments place.segment []))

-- so many bytes lie there
pub record IsWithin (segments : List (List ℕ)) (place : Place) : Type 0 where
  pub segment : place.segment < length segments
  pub bytes : place.start + place.len ≤ length (slice_index_or segments place.segment [])

-- each place is one of these segments'
pub record IsPlacedIn (full : List (List ℕ)) (last : List ℕ) (places : List Place) : Type 0 where
  pub each : All (IsWithin (full ++ last ∷ [])) places
  pub short : length last < 2 ^ 32

-- the same segments, or those and an empty one behind them; and so many bytes more do not make the last too long
pub record IsBegun (full : List (List ℕ)) (last : List ℕ) (full' : List (List ℕ)) (last' : List ℕ) (len : ℕ) : Type 0 where
  pub segments : ((full' ≡ full) × (last' ≡ last)) ⊎ ((full' ≡ full ++ last ∷ []) × (last' ≡ []))
  pub short : length last < 2 ^ 32 → len < 2 ^ 32 → length last' + len < 2 ^ 32
