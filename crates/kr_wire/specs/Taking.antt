-- For which bytes memory is taken while they are read: for those in which the first item of a list is read whole, of a
-- batch, of the entries, the outcomes, the pairs, the answers or the chain. All that stands before it takes none.
use Rattle.std.specs.Prelude.{ℕ, zero, suc, ◌==◌, ◌||◌, Bool, true, false, if◌then◌else◌, List, Result, Ok, Err}
use Rattle.std.specs.Int.{w32, w64}
use Rattle.kr_wire.specs.declared.party.MessageKind.{MessageKind}
use Rattle.kr_wire.specs.declared.party.MessageKind.TheVariants as kinds
use Rattle.kr_wire.specs.Reading.{Read, number_at, above, byte_in, pair_at, asked_at, entry_at, outcome_at, answer_at, node_at, part_at, message_kind_at, sender_by, addressee_by}

-- whether it is taken behind a value, where one is read
abbrev pub behind : {item : Type 0} → Read item → (item × List ℕ → Bool) → Bool
behind (Ok x) taken = taken x
behind (Err left) taken = false

-- for nothing
abbrev pub never : List ℕ → Bool
never bytes = false

-- for so many items: for the first, where one is read, or while it is read
unfoldable pub items_take : {item : Type 0} → (List ℕ → Read item) → (List ℕ → Bool) → ℕ → List ℕ → Bool
items_take reader taking zero bytes = false
items_take reader taking (suc n) bytes = taking bytes || behind (reader bytes) (λ x. true)

-- for a count of this range, and so many items
abbrev pub counted_take : {item : Type 0} → ℕ → ℕ → (List ℕ → Read item) → (List ℕ → Bool) → List ℕ → Bool
counted_take low high reader taking bytes =
    behind (byte_in low high bytes) (λ count. items_take reader taking count.0 count.1)

unfoldable pub command_by_takes : ℕ → List ℕ → Bool
command_by_takes tag bytes = if tag == 2 then counted_take 0 32 pair_at never bytes else false

unfoldable pub command_takes : List ℕ → Bool
command_takes bytes = behind (byte_in 1 4 bytes) (λ tag. command_by_takes tag.0 tag.1)

unfoldable pub entry_takes : List ℕ → Bool
entry_takes bytes = behind (above w32 0 bytes) (λ client. behind (above w64 0 client.1) (λ seq. command_takes seq.1))

unfoldable pub reply_by_takes : ℕ → List ℕ → Bool
reply_by_takes tag bytes = if tag == 2 then counted_take 0 32 outcome_at never bytes else false

unfoldable pub reply_takes : List ℕ → Bool
reply_takes bytes = behind (byte_in 1 5 bytes) (λ tag. reply_by_takes tag.0 tag.1)

unfoldable pub chain_takes : List ℕ → Bool
chain_takes bytes = counted_take 1 64 (above w32 0) never bytes

unfoldable pub view_takes : List ℕ → Bool
view_takes bytes = behind (above w64 0 bytes) (λ number. chain_takes number.1)

-- for what follows sender and addressee
unfoldable pub message_takes : MessageKind → List ℕ → Bool
message_takes kinds.Request bytes = behind (above w64 0 bytes) (λ seq. command_takes seq.1)
message_takes kinds.Append bytes = behind (above w64 0 bytes) (λ first. counted_take 1 16 entry_at entry_takes first.1)
message_takes kinds.Ack bytes = false
message_takes kinds.NewView bytes = view_takes bytes
message_takes kinds.Ask bytes = behind (part_at bytes) (λ part. counted_take 1 32 asked_at never part.1)
message_takes kinds.Replied bytes =
    behind (above w64 0 bytes) (λ seq. behind (above w64 0 seq.1) (λ place. reply_takes place.1))
message_takes kinds.Answered bytes =
    behind (part_at bytes) (λ part. behind (number_at w64 part.1) (λ entry. counted_take 1 32 answer_at never entry.1))
message_takes kinds.Refer bytes = behind (part_at bytes) (λ part. view_takes part.1)
message_takes kinds.Joined bytes = false

unfoldable pub packet_by_takes : MessageKind → List ℕ → Bool
packet_by_takes kind bytes =
    behind (node_at (sender_by kind) bytes)
    (λ from. behind (node_at (addressee_by kind) from.1) (λ to. message_takes kind to.1))

unfoldable pub packet_takes : List ℕ → Bool
packet_takes bytes =
    behind (byte_in 1 1 bytes) (λ version. behind (message_kind_at version.1) (λ kind. packet_by_takes kind.0 kind.1))
