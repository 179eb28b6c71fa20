-- What is known of a step that is not refused.
use Rattle.std.proofs.Common.{◌≡◌, ℕ, ◌<◌, Bool, true, false, cond, leb, List, length, refl, sym, subst}
use Rattle.std.specs.Prelude.{Option, None, Some, is_some, slice_get, All}
use Rattle.std.proofs.lemmas.Bool.{leb-false, false≢true, or_parts}
use Rattle.std.proofs.lemmas.Option.{none-some, slice_get_within, get_or_from_slice_get}
use Rattle.std.proofs.lemmas.List.Elements.{All-get_or}
use Rattle.kr_order.specs.declared.ids.ServerId.{ServerId}
use Rattle.kr_order.specs.declared.message.Packet.{Packet}
use Rattle.kr_protocol.specs.Server.{Server}
use Rattle.kr_protocol.specs.Client.{Client, is_busy}
use Rattle.kr_world.specs.declared.refusal.Refusal.{Refusal}
use Rattle.kr_world.specs.declared.refusal.Refusal.TheVariants.{NoSuchClient, NoSuchServer, Stopped, Busy, NothingOpen, Lost, BagFull}
use Rattle.kr_order.specs.Marks.{is_marked}
use Rattle.kr_world.specs.World.{World, is_stopped, has_stopped, bytes_of}
use Rattle.kr_world.specs.Step.{bag_limit, byte_limit, is_full, if_full, call_refusal, server_refusal, query_refusal, retry_refusal, deliver_refusal}

-- what holds of each element holds of the one at an index
pub at_index : {X : Type 0} (P : X → Type 0) (xs : List X) (i : ℕ) (x : X) → All P xs → slice_get xs i ≡ Some x → P x
at_index P xs i x all is =
    subst P (get_or_from_slice_get xs i x x is) (All-get_or P xs i x (slice_get_within xs i x is) all)

pub none_of : {A : Type 0} (o : Option A) → is_some o ≡ false → o ≡ None
none_of None is = refl
none_of (Some x) is = absurd (false≢true (sym is))

-- a test that refuses has failed where nothing is refused, and nor do the tests behind it refuse
pub passed :
    (why : Refusal) (test : Bool) (rest : Option Refusal)
    → cond test (Some why) rest ≡ None
    → (test ≡ false) × (rest ≡ None)
passed why true rest none = absurd (none-some why (sym none))
passed why false rest none = (refl, none)

-- a step that may send and is not refused finds room in the bag
pub has_room : (world : World) → if_full world ≡ None → length world.bag < bag_limit
has_room world none =
    let roomy : is_full world ≡ false = (passed BagFull (is_full world) None none).0 in
    leb-false bag_limit (length world.bag) (or_parts (leb bag_limit (length world.bag)) (leb byte_limit (bytes_of world.bag)) roomy).0

-- a call that is not refused finds its client idle, and room in the bag
pub record IsIdle (world : World) (client : Client) : Type 0 where
  pub idle : is_busy client ≡ false
  pub room : length world.bag < bag_limit

pub idle_client : (world : World) (client : Client) → call_refusal world (Some client) ≡ None → IsIdle world client
idle_client world client none =
    let free = passed Busy (is_busy client) (if_full world) none in record { idle = free.0; room = has_room world free.1 }

-- a server that is not refused is there, has not stopped, and nothing else refuses it
pub record MayTurn (world : World) (id : ServerId) (found : Option Server) (rest : Option Refusal) : Type 0 where
  pub server : Server
  pub server_is : found ≡ Some server
  pub runs : is_stopped world id ≡ false
  pub free : rest ≡ None

pub may_turn :
    (world : World) (id : ServerId) (found : Option Server) (rest : Option Refusal)
    → server_refusal world id found rest ≡ None
    → MayTurn world id found rest
may_turn world id None rest none = absurd (none-some NoSuchServer (sym none))
may_turn world id (Some server) rest none =
    let both = passed Stopped (is_stopped world id) rest none in
    record { server = server; server_is = refl; runs = both.0; free = both.1 }

-- a query that is not refused is of a client that may call, to a server that is there
pub record MayAsk (world : World) (found : Option Client) : Type 0 where
  pub client : Client
  pub client_is : found ≡ Some client
  pub may_call : call_refusal world (Some client) ≡ None

pub may_ask :
    (world : World) (id : ServerId) (found : Option Client) (to : Option Server)
    → query_refusal world id found to ≡ None
    → MayAsk world found
may_ask world id None to none = absurd (none-some NoSuchClient (sym none))
may_ask world id (Some client) to none =
    record { client = client; client_is = refl; may_call = (may_turn world id to (call_refusal world (Some client)) none).free }

-- an idle client has no open command
pub no_call : (client : Client) → is_busy client ≡ false → client.call ≡ None
no_call client idle = none_of client.call (or_parts (is_some client.call) (is_some client.asking) idle).0

-- and no open query
pub no_query : (client : Client) → is_busy client ≡ false → client.asking ≡ None
no_query client idle = none_of client.asking (or_parts (is_some client.call) (is_some client.asking) idle).1

-- an open call that may be tried again is of a client that has one, and there is room in the bag
pub record MayRetry (world : World) (found : Option Client) : Type 0 where
  pub client : Client
  pub client_is : found ≡ Some client
  pub busy : is_busy client ≡ true
  pub room : length world.bag < bag_limit

pub may_retry :
    (world : World) (id : ServerId) (found : Option Client) (to : Option Server)
    → retry_refusal world id found to ≡ None
    → MayRetry world found
may_retry world id None to none = absurd (none-some NoSuchClient (sym none))
may_retry world id (Some client) to none =
    by_test (is_busy client) refl (may_turn world id to (cond (is_busy client) (if_full world) (Some NothingOpen)) none).free
  where
    by_test :
        (busy : Bool)
        → is_busy client ≡ busy
        → cond busy (if_full world) (Some NothingOpen) ≡ None
        → MayRetry world (Some client)
    by_test true busy none = record { client = client; client_is = refl; busy = busy; room = has_room world none }
    by_test false busy none = absurd (none-some NothingOpen (sym none))

-- a delivery that is not refused is to a node that has not stopped, and finds room in the bag
pub record MayDeliver (world : World) (packet : Packet) : Type 0 where
  pub runs : has_stopped world packet.to ≡ false
  pub room : length world.bag < bag_limit

pub may_deliver :
    (world : World) (k : ℕ) (packet : Packet)
    → deliver_refusal world k (Some packet) ≡ None
    → MayDeliver world packet
may_deliver world k packet none =
    let rest = cond (is_marked world.lost k) (Some Lost) (if_full world) in
    let first = passed Stopped (has_stopped world packet.to) rest none in
    let second = passed Lost (is_marked world.lost k) (if_full world) first.1 in
    record { runs = first.0; room = has_room world second.1 }
