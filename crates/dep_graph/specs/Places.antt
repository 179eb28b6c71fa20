-- How a table is kept: a place for each event, which is empty once the event was taken out.
use Rattle.std.specs.Prelude.{◌≡◌, ◌<◌, ◌-◌, ℕ, Option, None, IsSome, List, [], ◌∷◌, ◌++◌, length, filter_map, slice_index_or}
use Rattle.std.specs.List.{AllPairs}
use Rattle.std.specs.Option.{option_map}
use Rattle.dep_graph.specs.declared.table.Place.{Place}

-- the entry of a place, if it is not empty
abbrev pub entry_of : Place → Option (ℕ × ℕ)
entry_of place = option_map (λ number. (place.event, number)) place.number

-- the entries of the places that are not empty
abbrev pub entries_in : List Place → List (ℕ × ℕ)
entries_in places = filter_map entry_of places

-- each place is of a greater event than the ones before it
abbrev pub ArePlacesRising : List Place → Type 0
ArePlacesRising places = AllPairs (λ x y. x.event < y.event) places

-- the places rise, and so many are not empty
pub record ArePlaces (places : List Place) (filled : ℕ) : Type 0 where
  pub rising : ArePlacesRising places
  pub counted : filled ≡ length (entries_in places)

-- the place with this index is the event's
pub record IsPlaceAt (places : List Place) (event i : ℕ) : Type 0 where
  pub below : i < length places
  pub named : (d : Place) → (slice_index_or places i d).event ≡ event

-- and it is not empty
pub record IsFilledAt (places : List Place) (event i : ℕ) : Type 0 where
  pub at : IsPlaceAt places event i
  pub filled : (d : Place) → IsSome (slice_index_or places i d).number

-- the last place, if there is one, is not empty
abbrev pub EndsFilled : List Place → Type 0
EndsFilled places = (d : Place) → 0 < length places → IsSome (slice_index_or places (length places - 1) d).number

-- the first places are the new ones, and those behind them are empty
pub record EndsEmpty (old new : List Place) : Type 0 where
  pub more : List Place
  pub is : old ≡ new ++ more
  pub empty : entries_in more ≡ []
