-- The statements of the laws.
use Rattle.std.specs.Prelude.{◌≡◌, ℕ, List, [], ◌++◌, length}
use Rattle.kr_order.specs.declared.message.Packet.{Packet}
use Rattle.kr_order.specs.Size.{packet_size}
use Rattle.kr_wire.specs.Valid.{IsEntry, IsReply, IsPacket}
use Rattle.kr_wire.specs.Spelling.{entry_bytes, reply_bytes, spelling}
use Rattle.kr_wire.specs.Rows.{first_request, first_request_bytes, first_reply, first_reply_bytes}

-- bytes that begin with the spelling of a value that fits begin with that of no other
abbrev pub IsSpeltOnce : {item : Type 0} → (item → List ℕ) → (item → Type 0) → Type 0
IsSpeltOnce {item = item} text Fits =
    (one other : item) (rest rest' : List ℕ) → Fits one → Fits other → text one ++ rest ≡ text other ++ rest'
    → (one ≡ other) × (rest ≡ rest')

-- packets, and entries and replies by themselves
abbrev pub ASpellingIsOfOneValue : Type 0
ASpellingIsOfOneValue =
    IsSpeltOnce spelling IsPacket × IsSpeltOnce entry_bytes IsEntry × IsSpeltOnce reply_bytes IsReply

-- a spelling that another begins with is that other one
abbrev pub NoSpellingBeginsAnother : Type 0
NoSpellingBeginsAnother =
    (one other : Packet) (rest : List ℕ) → IsPacket one → IsPacket other → spelling one ++ rest ≡ spelling other → rest ≡ []

-- as many bytes as are counted of the packet
abbrev pub SpellingsAreAsLongAsCounted : Type 0
SpellingsAreAsLongAsCounted = (packet : Packet) → length (spelling packet) ≡ packet_size packet

-- this is how the packets of the smallest run are spelt
abbrev pub TheFirstPacketsAreSpeltSo : Type 0
TheFirstPacketsAreSpeltSo =
    (spelling first_request ≡ first_request_bytes) × (spelling first_reply ≡ first_reply_bytes)
    × IsPacket first_request × IsPacket first_reply
