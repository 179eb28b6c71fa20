-- What a bag holds: the spelling of each packet ever sent, and beside it which of them were lost and which were
-- delivered. Packet k is at index k - 1.
use Rattle.std.specs.Prelude.{◌≡◌, ◌≤◌, ◌<◌, ◌↔◌, ℕ, ◌+◌, ◌-◌, ◌*◌, ◌^◌, ◌++◌, ◌∷◌, [], ◌==◌, ◌||◌, Bool, true, false, not, List, length}
use Rattle.std.specs.Prelude.{sum_by, slice_get, if◌then◌else◌, Option, None, Some, IfSome, IfNone}
use Rattle.kr_order.specs.declared.message.Node.{Node}
use Rattle.kr_order.specs.declared.message.Packet.{Packet}
use Rattle.kr_order.specs.Marks.{is_marked}
use Rattle.kr_wire.specs.Valid.{IsPacket}
use Rattle.kr_wire.specs.Spelling.{spelling}

pub record Sent : Type 0 where
  pub spellings : List (List ℕ)
  pub lost : List Bool
  pub delivered : List Bool

-- the bag before the first packet
abbrev pub nothing_sent : Sent
nothing_sent = record { spellings = []; lost = []; delivered = [] }

-- one spelling more, which is neither lost nor delivered
abbrev pub sent_after : Sent → List ℕ → Sent
sent_after sent bytes =
    record { spellings = sent.spellings ++ bytes ∷ []; lost = sent.lost ++ false ∷ []; delivered = sent.delivered ++ false ∷ [] }

-- the spelling of packet k, where there is one
abbrev pub spelling_at : Sent → ℕ → Option (List ℕ)
spelling_at sent k = if k == 0 then None else slice_get sent.spellings (k - 1)

-- the number of a packet of the bag
pub record IsSent (sent : Sent) (k : ℕ) : Type 0 where
  pub first : 1 ≤ k
  pub last : k ≤ length sent.spellings

-- packet k was neither lost nor delivered
abbrev pub is_open : Sent → ℕ → Bool
is_open sent k = not (is_marked sent.lost k || is_marked sent.delivered k)

-- how many bytes the spellings have
abbrev pub bytes_of : Sent → ℕ
bytes_of sent = sum_by (λ bytes. length bytes) sent.spellings

-- the packet after this number that is open, where none before it is; and none is up to the last
pub record IsNextOpen (sent : Sent) (after last k : ℕ) : Type 0 where
  pub later : after < k
  pub within : k ≤ last
  pub sent_before : k ≤ length sent.spellings
  pub is_next : is_open sent k ≡ true
  pub none_before : (j : ℕ) → after < j → j < k → is_open sent j ≡ false

abbrev pub HasNoOpen : Sent → ℕ → ℕ → Type 0
HasNoOpen sent after last = (j : ℕ) → after < j → j ≤ last → j ≤ length sent.spellings → is_open sent j ≡ false

-- the bytes, where there are some, spell a packet that goes here
abbrev pub IsTo : Option (List ℕ) → Option Node → Type 0
IsTo None to = to ≡ None
IsTo (Some bytes) to = (packet : Packet) × IsPacket packet × (bytes ≡ spelling packet) × (to ≡ Some packet.to)
