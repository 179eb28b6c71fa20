-- Reading a packet from the left. A reader answers a value and the bytes after it. Else it answers how many bytes
-- are left from the first field on that is cut short or holds a value that is not allowed.
use Rattle.std.specs.Prelude.{◌≡◌, ℕ, zero, suc, ◌+◌, ◌==◌, nat_lt, Bool, true, if◌then◌else◌, List, [], ◌∷◌, length, take, drop, Option, None, Some}
use Rattle.std.specs.Prelude.{Result, Ok, Err}
use Rattle.std.specs.Int.{Width, w32, w64, byte_len, from_be_bytes}
use Rattle.kr_order.specs.declared.ids.EventId.{EventId}
use Rattle.kr_order.specs.declared.ids.ServerId.{ServerId}
use Rattle.kr_order.specs.declared.batch.Kind.{Kind}
use Rattle.kr_order.specs.declared.batch.Kind.TheVariants.{Must, Prefer}
use Rattle.kr_order.specs.declared.batch.Pair.{Pair}
use Rattle.kr_order.specs.declared.batch.Outcome.{Outcome}
use Rattle.kr_order.specs.declared.batch.Outcome.TheVariants as outcomes
use Rattle.kr_order.specs.declared.answer.Answer.{Answer}
use Rattle.kr_order.specs.declared.answer.Answer.TheVariants as answers
use Rattle.kr_order.specs.declared.history.Command.{Command}
use Rattle.kr_order.specs.declared.history.Command.TheVariants.{Create, Assign, Acquire, Release}
use Rattle.kr_order.specs.declared.history.Entry.{Entry}
use Rattle.kr_order.specs.declared.history.Reply.{Reply}
use Rattle.kr_order.specs.declared.history.Reply.TheVariants.{Created, Assigned, Count, Unknown, Contradicts}
use Rattle.kr_order.specs.declared.view.View.{View}
use Rattle.kr_order.specs.declared.message.Node.{Node}
use Rattle.kr_order.specs.declared.message.Node.TheVariants.{Manager, Client, Server}
use Rattle.kr_order.specs.declared.message.Message.{Message}
use Rattle.kr_order.specs.declared.message.Message.TheVariants.{Request, Append, Ack, NewView, Replied, Ask, Answered, Refer, Joined}
use Rattle.kr_order.specs.declared.message.Packet.{Packet}
use Rattle.kr_wire.specs.declared.stop.FieldError.{FieldError}
use Rattle.kr_wire.specs.declared.stop.FieldError.TheVariants as stop
use Rattle.kr_wire.specs.declared.party.Party.{Party}
use Rattle.kr_wire.specs.declared.party.Party.TheVariants as party
use Rattle.kr_wire.specs.declared.party.MessageKind.{MessageKind}
use Rattle.kr_wire.specs.declared.party.MessageKind.TheVariants as kinds
use Rattle.kr_wire.specs.Valid.{last_id}

-- what a reader answers of bytes
abbrev pub Read : Type 0 → Type 0
Read item = Result (item × List ℕ) ℕ

infixl 10 ◌>>=◌
abbrev pub ◌>>=◌ : {item other : Type 0} → Result item ℕ → (item → Result other ℕ) → Result other ℕ
(Ok x) >>= f = f x
(Err left) >>= f = Err left

-- what the code answers is what the reader answers, unless memory ran out; and it runs out only where it is taken
abbrev pub Fails : {item : Type 0} → Bool → FieldError → Result item ℕ → Type 0
Fails taken stop.NoMemory read = taken ≡ true
Fails taken (stop.Broken left) read = read ≡ Err left

abbrev pub Gives : {item other : Type 0} → Bool → (item → other) → Result item FieldError → Result other ℕ → Type 0
Gives taken view (Ok x) read = read ≡ Ok (view x)
Gives taken view (Err e) read = Fails taken e read

-- a value, and behind it another that may depend on it
abbrev pub followed : {item other : Type 0} → (List ℕ → Read item) → (item → List ℕ → Read other) → List ℕ → Read (item × other)
followed first second bytes = first bytes >>= λ a. second a.0 a.1 >>= λ b. Ok ((a.0, b.0), b.1)

abbrev pub both : {item other : Type 0} → (List ℕ → Read item) → (List ℕ → Read other) → List ℕ → Read (item × other)
both first second bytes = first bytes >>= λ a. second a.1 >>= λ b. Ok ((a.0, b.0), b.1)

-- what is made of a value
abbrev pub made : {item other : Type 0} → (item → other) → (List ℕ → Read item) → List ℕ → Read other
made f reader bytes = reader bytes >>= λ a. Ok (f a.0, a.1)

-- a number of so many bytes
unfoldable pub number_at : Width → List ℕ → Read ℕ
number_at w bytes =
    if nat_lt (length bytes) (byte_len w) then Err (length bytes)
    else Ok (from_be_bytes w (take (byte_len w) bytes), drop (byte_len w) bytes)

-- the same, where it is greater than low
unfoldable pub above : Width → ℕ → List ℕ → Read ℕ
above w low bytes = number_at w bytes >>= λ n. if nat_lt low n.0 then Ok n else Err (length bytes)

-- a byte of this range
unfoldable pub byte_in : ℕ → ℕ → List ℕ → Read ℕ
byte_in low high [] = Err 0
byte_in low high (b ∷ rest) =
    if nat_lt b low then Err (length rest + 1) else (if nat_lt high b then Err (length rest + 1) else Ok (b, rest))

-- so many items
unfoldable pub items_at : {item : Type 0} → (List ℕ → Read item) → ℕ → List ℕ → Read (List item)
items_at reader zero bytes = Ok ([], bytes)
items_at reader (suc n) bytes = reader bytes >>= λ x. items_at reader n x.1 >>= λ xs. Ok (x.0 ∷ xs.0, xs.1)

-- a count of this range, and so many items
abbrev pub counted_at : {item : Type 0} → ℕ → ℕ → (List ℕ → Read item) → List ℕ → Read (List item)
counted_at low high reader = made (λ p. p.1) (followed (byte_in low high) (λ count. items_at reader count))

abbrev pub kind_of : ℕ → Kind
kind_of tag = if tag == 1 then Must else Prefer

abbrev pub pair_of : (ℕ × ℕ) × ℕ → Pair
pair_of p = record { first = record { 0 = p.0.1 }; second = record { 0 = p.1 }; kind = kind_of p.0.0 }

unfoldable pub pair_at : List ℕ → Read Pair
pair_at = made pair_of (both (both (byte_in 1 2) (above w64 0)) (above w64 0))

abbrev pub asked_of : ℕ × ℕ → EventId × EventId
asked_of p = (record { 0 = p.0 }, record { 0 = p.1 })

unfoldable pub asked_at : List ℕ → Read (EventId × EventId)
asked_at = made asked_of (both (above w64 0) (above w64 0))

abbrev pub event_of : ℕ → EventId
event_of n = record { 0 = n }

-- what follows the number of a command
unfoldable pub command_by : ℕ → List ℕ → Read Command
command_by tag =
    if tag == 1 then (λ bytes. Ok (Create, bytes))
    else (if tag == 2 then made (λ batch. Assign batch) (counted_at 0 32 pair_at)
    else (if tag == 3 then made (λ n. Acquire (event_of n)) (above w64 0)
    else made (λ n. Release (event_of n)) (above w64 0)))

unfoldable pub command_at : List ℕ → Read Command
command_at = made (λ p. p.1) (followed (byte_in 1 4) command_by)

abbrev pub entry_of : (ℕ × ℕ) × Command → Entry
entry_of p = record { client = record { 0 = p.0.0 }; seq = p.0.1; command = p.1 }

unfoldable pub entry_at : List ℕ → Read Entry
entry_at = made entry_of (both (both (above w32 0) (above w64 0)) command_at)

abbrev pub outcome_of : ℕ → Outcome
outcome_of tag = if tag == 1 then outcomes.Kept else (if tag == 2 then outcomes.Reversed else outcomes.Same)

unfoldable pub outcome_at : List ℕ → Read Outcome
outcome_at = made outcome_of (byte_in 1 3)

-- what follows the number of a reply
unfoldable pub reply_by : ℕ → List ℕ → Read Reply
reply_by tag =
    if tag == 1 then made (λ n. Created (event_of n)) (above w64 0)
    else (if tag == 2 then made (λ all. Assigned all) (counted_at 0 32 outcome_at)
    else (if tag == 3 then made (λ n. Count n) (number_at w64)
    else (if tag == 4 then made (λ n. Unknown n) (number_at w32)
    else made (λ n. Contradicts n) (number_at w32))))

unfoldable pub reply_at : List ℕ → Read Reply
reply_at = made (λ p. p.1) (followed (byte_in 1 5) reply_by)

abbrev pub answer_of : ℕ → Answer
answer_of tag =
    if tag == 1 then answers.Before
    else (if tag == 2 then answers.After
    else (if tag == 3 then answers.Same
    else (if tag == 4 then answers.Concurrent
    else (if tag == 5 then answers.Unknown else answers.Unsure))))

unfoldable pub answer_at : List ℕ → Read Answer
answer_at = made answer_of (byte_in 1 6)

abbrev pub server_of : ℕ → ServerId
server_of n = record { 0 = n }

-- so many ids that rise from above low on
unfoldable pub rising_at : ℕ → ℕ → List ℕ → Read (List ServerId)
rising_at zero low bytes = Ok ([], bytes)
rising_at (suc n) low bytes = above w32 low bytes >>= λ id. rising_at n id.0 id.1 >>= λ ids. Ok (server_of id.0 ∷ ids.0, ids.1)

unfoldable pub chain_at : List ℕ → Read (List ServerId)
chain_at = made (λ p. p.1) (followed (byte_in 1 64) (λ count. rising_at count 0))

-- the server that is added behind a chain whose last id is this one, where there is one
unfoldable pub joiner_at : ℕ → List ℕ → Read (Option ServerId)
joiner_at last bytes =
    number_at w32 bytes >>= λ n. if n.0 == 0 then Ok (None, n.1)
    else (if nat_lt last n.0 then Ok (Some (server_of n.0), n.1) else Err (length bytes))

abbrev pub view_of : (ℕ × List ServerId) × Option ServerId → View
view_of p = record { number = p.0.0; chain = p.0.1; joiner = p.1 }

unfoldable pub view_at : List ℕ → Read View
view_at = made view_of (followed (both (above w64 0) chain_at) (λ p. joiner_at (last_id 0 p.1)))

-- the manager, or a client or a server with its id
unfoldable pub node_at : Party → List ℕ → Read Node
node_at party.Manager = λ bytes. number_at w32 bytes >>= λ n. if n.0 == 0 then Ok (Manager, n.1) else Err (length bytes)
node_at party.Client = made (λ n. Client (record { 0 = n })) (above w32 0)
node_at party.Server = made (λ n. Server (record { 0 = n })) (above w32 0)

-- the node of a party with this number
abbrev pub node_of : Party → ℕ → Node
node_of party.Manager number = Manager
node_of party.Client number = Client (record { 0 = number })
node_of party.Server number = Server (record { 0 = number })

abbrev pub kind_by : ℕ → MessageKind
kind_by tag =
    if tag == 1 then kinds.Request
    else (if tag == 2 then kinds.Append
    else (if tag == 3 then kinds.Ack
    else (if tag == 4 then kinds.NewView
    else (if tag == 5 then kinds.Ask
    else (if tag == 6 then kinds.Replied
    else (if tag == 7 then kinds.Answered
    else (if tag == 8 then kinds.Refer else kinds.Joined)))))))

unfoldable pub message_kind_at : List ℕ → Read MessageKind
message_kind_at = made kind_by (byte_in 1 9)

-- who sends a message of the kind, and who gets it
abbrev pub sender_by : MessageKind → Party
sender_by kinds.Request = party.Client
sender_by kinds.Append = party.Server
sender_by kinds.Ack = party.Server
sender_by kinds.NewView = party.Manager
sender_by kinds.Ask = party.Client
sender_by kinds.Replied = party.Server
sender_by kinds.Answered = party.Server
sender_by kinds.Refer = party.Server
sender_by kinds.Joined = party.Server

abbrev pub addressee_by : MessageKind → Party
addressee_by kinds.Request = party.Server
addressee_by kinds.Append = party.Server
addressee_by kinds.Ack = party.Server
addressee_by kinds.NewView = party.Server
addressee_by kinds.Ask = party.Server
addressee_by kinds.Replied = party.Client
addressee_by kinds.Answered = party.Client
addressee_by kinds.Refer = party.Client
addressee_by kinds.Joined = party.Manager

-- which query it is, and which part of it
unfoldable pub part_at : List ℕ → Read (ℕ × ℕ)
part_at = both (above w64 0) (byte_in 1 2)

-- what follows sender and addressee
unfoldable pub message_at : MessageKind → List ℕ → Read Message
message_at kinds.Request = made (λ p. Request p.0 p.1) (both (above w64 0) command_at)
message_at kinds.Append = made (λ p. Append p.0 p.1) (both (above w64 0) (counted_at 1 16 entry_at))
message_at kinds.Ack = made (λ p. Ack p.0 p.1) (both (number_at w64) (number_at w64))
message_at kinds.NewView = made (λ view. NewView view) view_at
message_at kinds.Ask = made (λ p. Ask p.0.0 p.0.1 p.1) (both part_at (counted_at 1 32 asked_at))
message_at kinds.Replied =
    made (λ p. Replied p.0.0 (record { place = p.0.1; reply = p.1 })) (both (both (above w64 0) (above w64 0)) reply_at)
message_at kinds.Answered =
    made (λ p. Answered p.0.0.0 p.0.0.1 (record { entry = p.0.1; answers = p.1 }))
    (both (both part_at (number_at w64)) (counted_at 1 32 answer_at))
message_at kinds.Refer = made (λ p. Refer p.0.0 p.0.1 p.1) (both part_at view_at)
message_at kinds.Joined = made (λ n. Joined (server_of n)) (above w32 0)

-- sender, addressee, and what a message of the kind says
unfoldable pub packet_by : MessageKind → List ℕ → Read ((Node × Node) × Message)
packet_by kind = both (both (node_at (sender_by kind)) (node_at (addressee_by kind))) (message_at kind)

abbrev pub packet_of : (ℕ × MessageKind) × ((Node × Node) × Message) → Packet
packet_of p = record { from = p.1.0.0; to = p.1.0.1; message = p.1.1 }

unfoldable pub packet_at : List ℕ → Read Packet
packet_at = made packet_of (followed (both (byte_in 1 1) message_kind_at) (λ p. packet_by p.1))

-- a packet that all of the bytes spell
unfoldable pub packet_in : List ℕ → Result Packet ℕ
packet_in bytes = packet_at bytes >>= λ p. if length p.1 == 0 then Ok p.0 else Err (length p.1)
