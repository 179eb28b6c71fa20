-- How events are put in an order in which each stands behind those that lead to it, and when they can't be.
use Rattle.std.specs.Prelude.{◌≡◌, ℕ, ◌+◌, ◌<◌, Bool, true, false, List, length, slice_index, slice_index_or, Option, None, Some}
use Rattle.kr_order.specs.Order.{reach}
use Rattle.clock_import.specs.declared.links.Link.{Link}
use Rattle.clock_import.specs.Links.{LeadsTo, link_at}

-- the event is marked
abbrev pub is_marked : List Bool → ℕ → Bool
is_marked marks event = slice_index_or marks event false

-- the event stands in the list, and it does before an index
abbrev pub Stands : List ℕ → ℕ → Type 0
Stands events event = (i : ℕ) × (i < length events) × (slice_index events i ≡ event)

abbrev pub StandsBefore : List ℕ → ℕ → ℕ → Type 0
StandsBefore events j event = (i : ℕ) × (i < j) × (slice_index events i ≡ event)

-- each of the events is one of the first so many, and stands behind those of them that lead to it
pub record IsInOrder (links : List Link) (many : ℕ) (order : List ℕ) : Type 0 where
  pub below : (j : ℕ) → j < length order → slice_index order j < many
  pub behind : (j : ℕ) → j < length order → (a : ℕ) → a < many → LeadsTo (link_at links (slice_index order j)) a
      → StandsBefore order j a

-- the events that are done stand in the order, and those that were taken up are done
pub record IsWalk (links : List Link) (many : ℕ) (done taken : List Bool) (order : List ℕ) : Type 0 where
  pub done_many : length done ≡ many
  pub taken_many : length taken ≡ many
  pub ordered : IsInOrder links many order
  pub placed : (a : ℕ) → is_marked done a ≡ true → Stands order a
  pub closed : (a : ℕ) → is_marked taken a ≡ true → is_marked done a ≡ true

-- the event is one that leads to the link and is not done, or there is none
abbrev pub Waits : Link → List Bool → Option ℕ → Type 0
Waits link done (Some a) = LeadsTo link a × (a < length done) × (is_marked done a ≡ false)
Waits link done None = (a : ℕ) → LeadsTo link a → a < length done → is_marked done a ≡ true

-- the order of these pairs has each event behind those that lead to it
pub record Says (links : List Link) (many : ℕ) (pairs : List (ℕ × ℕ)) : Type 0 where
  pub each : (e a : ℕ) → e < many → a < many → LeadsTo (link_at links e) a → reach pairs (a + 1) (e + 1) ≡ true

-- the first events, so many, lead to one another in a cycle
pub record HasCycle (links : List Link) (many : ℕ) : Type 0 where
  pub turns : (pairs : List (ℕ × ℕ)) → Says links many pairs → (x : ℕ) × (reach pairs x x ≡ true)

-- an order of the first events, so many
pub record IsOrder (links : List Link) (many : ℕ) (order : List ℕ) : Type 0 where
  pub ordered : IsInOrder links many order
  pub all : (a : ℕ) → a < many → Stands order a

-- the event is done, and all that were
pub record IsVisited (links : List Link) (e : ℕ) (done done' taken' : List Bool) (order' : List ℕ) : Type 0 where
  pub walk : IsWalk links (length done) done' taken' order'
  pub reached : is_marked done' e ≡ true
  pub kept : (a : ℕ) → is_marked done a ≡ true → is_marked done' a ≡ true

-- what a visit of an event comes to
abbrev pub Visits : List Link → ℕ → List Bool → List Bool → List Bool → List ℕ → Bool → Type 0
Visits links e done done' taken' order' true = IsVisited links e done done' taken' order'
Visits links e done done' taken' order' false = HasCycle links (length done)

-- an order of the first events, so many, or that there is none
abbrev pub Orders : List Link → ℕ → Option (List ℕ) → Type 0
Orders links many (Some order) = IsOrder links many order
Orders links many None = HasCycle links many

-- so many events close a cycle, and one fewer don't
pub record Closing (links : List Link) (many : ℕ) : Type 0 where
  pub fewer : ℕ
  pub number : many ≡ fewer + 1
  pub order : List ℕ
  pub ordered : IsOrder links fewer order
  pub cycle : HasCycle links many
