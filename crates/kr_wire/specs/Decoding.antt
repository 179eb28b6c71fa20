-- What the decoders answer of bytes.
use Rattle.std.specs.Prelude.{◌≡◌, ◌≢◌, ◌≤◌, ◌-◌, ◌⊎◌, ℕ, Bool, true, List, ◌++◌, length, drop, Option, Some, Result, Ok, Err}
use Rattle.kr_order.specs.declared.message.Node.{Node}
use Rattle.kr_order.specs.declared.message.Packet.{Packet}
use Rattle.kr_wire.specs.declared.stop.FieldError.{FieldError}
use Rattle.kr_wire.specs.declared.stop.FieldError.TheVariants as stop
use Rattle.kr_wire.specs.declared.stop.WireError.{WireError}
use Rattle.kr_wire.specs.declared.stop.WireError.TheVariants.{Refused, NoMemory}
use Rattle.kr_wire.specs.Valid.{IsPacket}
use Rattle.kr_wire.specs.Spelling.{spelling}

-- the bytes spell a packet
abbrev pub IsSpelling : List ℕ → Type 0
IsSpelling bytes = (packet : Packet) × IsPacket packet × (bytes ≡ spelling packet)

-- the packet that the bytes spell goes here
abbrev pub IsAddressee : List ℕ → Option Node → Type 0
IsAddressee bytes to = (packet : Packet) → IsPacket packet → bytes ≡ spelling packet → to ≡ Some packet.to

-- what is answered is the packet that the bytes spell; they are refused where they spell none
abbrev pub Decodes : List ℕ → Result Packet WireError → Type 0
Decodes bytes (Ok packet) = IsPacket packet × (bytes ≡ spelling packet)
Decodes bytes (Err (Refused at)) = (packet : Packet) → IsPacket packet → bytes ≢ spelling packet
Decodes bytes (Err NoMemory) = Unit {0}

-- the one packet that the bytes spell is answered, where there is memory for it
abbrev pub IsDecoded : List ℕ → Result Packet WireError → Type 0
IsDecoded bytes result =
    (packet : Packet) → IsPacket packet → bytes ≡ spelling packet → (result ≡ Ok packet) ⊎ (result ≡ Err NoMemory)

-- what is answered is the value that is spelt from a place on, and the place after it; the bytes are refused where
-- none is spelt from there on
abbrev pub ReadsAt : {item : Type 0} → (item → List ℕ) → (item → Type 0) → List ℕ → ℕ → Result (item × ℕ) WireError → Type 0
ReadsAt text Fits bytes at (Ok read) =
    Fits read.0 × (drop at bytes ≡ text read.0 ++ drop read.1 bytes) × (read.1 ≤ length bytes)
ReadsAt {item = item} text Fits bytes at (Err (Refused place)) =
    (one : item) (rest : List ℕ) → Fits one → drop at bytes ≢ text one ++ rest
ReadsAt text Fits bytes at (Err NoMemory) = Unit {0}

-- bytes are refused exactly where the reader does not read them, and at the place, in so many bytes, of the first of
-- those that it leaves: of the first byte of the first field that is cut short or holds a value that is not allowed, or
-- of the first byte behind the last field
abbrev pub RefusesAt : {item other : Type 0} → ℕ → Result other ℕ → Result item WireError → Type 0
RefusesAt size read (Ok x) = (left : ℕ) → read ≢ Err left
RefusesAt size read (Err (Refused at)) = (left : ℕ) × (read ≡ Err left) × (at ≡ size - left)
RefusesAt size read (Err NoMemory) = Unit {0}

-- there is no memory only where some is taken
abbrev pub LacksOnly : {item : Type 0} → Bool → Result item WireError → Type 0
LacksOnly taken result = result ≡ Err NoMemory → taken ≡ true

-- so many bytes, a field of which is broken, are refused there
abbrev pub Refuses : ℕ → FieldError → WireError → Type 0
Refuses size (stop.Broken left) (Refused at) = at ≡ size - left
Refuses size (stop.Broken left) NoMemory = ⊥
Refuses size stop.NoMemory error = error ≡ NoMemory
