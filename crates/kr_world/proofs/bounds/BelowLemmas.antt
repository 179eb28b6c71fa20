-- What a server gains with a packet, in a sound world: no more than the server before it has.
use Rattle.std.proofs.Common.{◌≡◌, ℕ, ◌-◌, ◌≤◌, true, false, ltb, List, ◌++◌, length, refl, sym, ap, ◌∙◌, subst, arith}
use Rattle.std.specs.Prelude.{Option, None, Some, is_none, slice_get}
use Rattle.std.proofs.lemmas.Bool.{false≢true, and_parts}
use Rattle.std.proofs.lemmas.List.{append-nil}
use Rattle.std.proofs.lemmas.Option.{none-some}
use Rattle.kr_order.specs.declared.ids.ServerId.{ServerId}
use Rattle.kr_order.specs.declared.history.Entry.{Entry}
use Rattle.kr_order.specs.declared.message.Packet.{Packet}
use Rattle.kr_order.specs.declared.view.View.{View}
use Rattle.kr_order.specs.Prefix.{IsPrefix}
use Rattle.kr_order.specs.History.{highest_seq}
use Rattle.kr_order.specs.View.{in_chain, prev_of, is_head}
use Rattle.kr_protocol.specs.Manager.{views_of}
use Rattle.kr_protocol.specs.Server.{Server, most_entries, viewed, is_first, is_server, prev, missing}
use Rattle.kr_world.specs.World.{World}
use Rattle.kr_world.specs.Sound.{AreInLog, IsSoundPacket}
use Rattle.kr_world.proofs.bounds.ReceiveLemmas.{receives, missing_few}
use Rattle.kr_world.proofs.chain.ChainLemmas.{some_one}
use Rattle.kr_world.proofs.chain.SeatLemmas.{IsSeated, own_of, sender_is, one_before}
use Rattle.kr_world.proofs.shapes.ShapeLemmas.{Gains, gains_none, gains_command, gains_entries, IsCounted}

-- what came is true
abbrev pub IsSoundCame : World → Option Packet → Type 0
IsSoundCame world None = Unit {0}
IsSoundCame world (Some packet) = IsSoundPacket (views_of world.manager) world.servers packet

pub counted_of : (world : World) (id : ServerId) (server : Server) → IsSeated world id server → IsCounted server
counted_of world id server seat = let own = own_of world id server seat in record { done = own.done; fed = own.fed }

-- the first member has none before it
head_first :
    (view : Option View) (id : ServerId)
    → viewed false is_head view id ≡ true
    → viewed None prev_of view id ≡ None
head_first None id is = absurd (false≢true is)
head_first (Some view) id is = none_found (prev_of view id) (and_parts (in_chain view id) (is_none (prev_of view id)) is).1
  where
    none_found : (found : Option ServerId) → is_none found ≡ true → found ≡ None
    none_found None is = refl
    none_found (Some other) is = absurd (false≢true is)

-- the log with what it lacked is a front of the sender's
pub append_below :
    (world : World) (id : ServerId) (server : Server) (from : ServerId) (first : ℕ) (entries : List Entry)
    → IsSeated world id server
    → (said : AreInLog world.servers from first entries)
    → is_server (prev server) from ≡ true
    → IsPrefix (server.log ++ missing server.log first entries) said.sender.log
append_below world id server from first entries seat said is =
    let sender = said.sender in
    let named : prev server ≡ Some sender.id =
    some_one (prev server) from is ∙ ap (λ s. Some s) (sym (sender_is world from sender seat.sound said.there said.from_low)) in
    let below = (own_of world id server seat).below (from.0 - 1) sender said.there named in
    receives server.log sender.log entries first below said.first_low said.stand

-- with what it gains it has no more than the server before it
pub gained_below :
    (world : World) (id : ServerId) (server : Server) (came : Option Packet) (more : List Entry)
    → IsSeated world id server
    → IsSoundCame world came
    → Gains server came more
    → (j : ℕ) (before : Server)
    → slice_get world.servers j ≡ Some before
    → prev server ≡ Some before.id
    → IsPrefix (server.log ++ more) before.log
gained_below world id server came more seat said (gains_none any) j before there is =
    subst (λ l. IsPrefix l before.log) (sym (append-nil server.log)) ((own_of world id server seat).below j before there is)
gained_below world id server came more seat said (gains_command client to seq command may) j before there is =
    let first = (and_parts (is_first server) (ltb (highest_seq client server.log) seq) may).0 in
    absurd (none-some before.id (sym (head_first server.view server.id first) ∙ is))
gained_below world id server came more seat said (gains_entries from to first entries taken) j before there is =
    let same = one_before world server from said.sender seat.sound said.there said.from_low (some_one (prev server) from taken) j before there is in
    subst (λ (s : Server). IsPrefix (server.log ++ missing server.log first entries) s.log) same (append_below world id server from first entries seat said taken)

-- no more entries come than a packet has
pub gained_few :
    (world : World) (server : Server) (came : Option Packet) (more : List Entry)
    → IsSoundCame world came
    → Gains server came more
    → length more ≤ most_entries
gained_few world server came more said (gains_none any) = omega arith
gained_few world server came more said (gains_command client to seq command may) = omega arith
gained_few world server came more said (gains_entries from to first entries taken) =
    let few = said.few in omega (arith, missing_few server.log entries first)
