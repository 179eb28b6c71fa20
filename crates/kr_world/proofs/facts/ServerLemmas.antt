-- What a server does with a packet, with the queries that wait, and when its time has come, keeps the facts.
use Rattle.std.proofs.Common.{◌≡◌, ◌⊎◌, ◌-◌, true, false, cond, List, refl, sym, subst, inl, inr}
use Rattle.std.specs.Prelude.{Option, None, Some, slice_set, All}
use Rattle.std.proofs.lemmas.List.Elements.{All-weaker, All-set}
use Rattle.kr_order.specs.declared.ids.ClientId.{ClientId}
use Rattle.kr_order.specs.declared.ids.ServerId.{ServerId}
use Rattle.kr_order.specs.declared.history.Entry.{Entry}
use Rattle.kr_order.specs.declared.message.Packet.{Packet}
use Rattle.kr_order.specs.declared.view.View.{View}
use Rattle.kr_order.specs.Prefix.{IsPrefix}
use Rattle.kr_protocol.specs.Manager.{views_of}
use Rattle.kr_protocol.specs.Reaction.{Reaction, ignored}
use Rattle.kr_protocol.specs.Server.{Server, acknowledged, may_adopt, adopts, server_takes, server_works, server_ticks}
use Rattle.kr_protocol.proofs.TimelineLemmas.{IsListed}
use Rattle.kr_world.specs.World.{World, server_at, is_stopped, longest}
use Rattle.kr_world.specs.Step.{if_full, turn_refusal, server_reacts, arrives_at_server, works, ticks_at}
use Rattle.kr_world.specs.Run.{Turn}
use Rattle.kr_world.specs.Sound.{IsSound, IsSoundPacket}
use Rattle.kr_world.specs.Lawful.{IsNumbered, begun_by, entries_of}
use Rattle.kr_world.specs.Facts.{IsTrueQuery, IsLawfulLog, IsTrueServer, IsTruePacket, AreFacts}
use Rattle.kr_world.proofs.steps.StepLemmas.{may_turn}
use Rattle.kr_world.proofs.chain.SeatLemmas.{seated}
use Rattle.kr_world.proofs.bounds.ReactionLemmas.{HistoryGrows, grows_or_stays}
use Rattle.kr_world.proofs.shapes.ShapeLemmas.{IsSent, HasShape}
use Rattle.kr_world.proofs.bounds.BelowLemmas.{IsSoundCame, counted_of}
use Rattle.kr_world.proofs.bounds.WithinLemmas.{shape_within}
use Rattle.kr_world.proofs.bounds.AdoptLemmas.{IsAdoption, adoption_of, adopts_within}
use Rattle.kr_world.proofs.shapes.HandlerLemmas.{IsTaken, adopts_view, has_shape, taken_of}
use Rattle.kr_world.proofs.shapes.TurnLemmas.{works_shape, ticks_shape}
use Rattle.kr_world.proofs.packets.PacketLemmas.{queries_grown, servers_grown}
use Rattle.kr_world.proofs.facts.FactLemmas.{sent_facts, grown_facts}
use Rattle.kr_world.proofs.facts.KeepLemmas.{GoesOn, tells_nothing, facts_after, quiet_goes_on}
use Rattle.kr_world.proofs.packets.FineLemmas.{IsMoment, IsKnown, own_true, sent_true}
use Rattle.kr_world.proofs.packets.GainLemmas.{IsTrueCame, gains_lawful, waits_asked}

-- a server's log stays lawful, it sends true packets, and lets asked queries wait
pub record IsFair (past : List Turn) (now : List Entry) (reaction : Reaction Server) : Type 0 where
  pub log : IsLawfulLog past reaction.after.log
  pub sent : All (IsTruePacket past now) reaction.sent
  pub waiting : All (IsTrueQuery past now) reaction.after.waiting

-- every reaction that has a server's shape is fair
shape_fair : (past : List Turn) (world : World) (id : ServerId) (old : Server) (came : Option Packet)
    (reaction : Reaction Server) (now : List Entry) → IsMoment past world id old → IsSoundCame world came
    → IsTrueCame past world.history came → HasShape came old reaction → IsPrefix world.history now
    → IsPrefix (acknowledged reaction.after) now → IsFair past now reaction
shape_fair past world id old came reaction now moment sound known shape grown agreed =
    let after = reaction.after in
    let log : IsLawfulLog past after.log = subst (IsLawfulLog past) (sym shape.log) (gains_lawful past world id old came shape.more moment sound known shape.gains) in
    let then : IsKnown world now after = record { grown = grown; agreed = agreed; callers = log.callers } in
    record {
      log = log;
      sent = All-weaker (IsSent came old after) (IsTruePacket past now) (sent_true past world id came old after now moment then) reaction.sent shape.sent;
      waiting = queries_grown past world.history now after.waiting grown (waits_asked past world.history old came after.waiting (own_true past world id old moment) known shape.waiting);
    }

-- so is what a server does that adopts a view
adoption_fair : (past : List Turn) (world : World) (id : ServerId) (old : Server) (view : View)
    (reaction : Reaction Server) (now : List Entry) → IsMoment past world id old → IsAdoption old view reaction
    → IsPrefix world.history now → IsPrefix (acknowledged reaction.after) now → IsFair past now reaction
adoption_fair past world id old view reaction now moment its grown agreed =
    let own = own_true past world id old moment in
    let log : IsLawfulLog past reaction.after.log = subst (IsLawfulLog past) (sym its.log) own.log in
    let then : IsKnown world now reaction.after = record { grown = grown; agreed = agreed; callers = log.callers } in
    record {
      log = log;
      sent = All-weaker (IsSent None old reaction.after) (IsTruePacket past now) (sent_true past world id None old reaction.after now moment then) reaction.sent its.sent;
      waiting = queries_grown past world.history now reaction.after.waiting grown (subst (All (IsTrueQuery past world.history)) (sym its.waiting) own.waiting);
    }

-- each client's entries are in order in a history that is as it was, or what stands in a lawful log
numbered_now : (past : List Turn) (world : World) (log now : List Entry) → AreFacts past world → IsLawfulLog past log
    → (now ≡ world.history) ⊎ (now ≡ log) → (caller : ClientId) → IsNumbered (begun_by caller past) (entries_of caller now)
numbered_now past world log now facts lawful (inl same) caller =
    subst (λ h. IsNumbered (begun_by caller past) (entries_of caller h)) (sym same) (facts.in_step.numbered caller)
numbered_now past world log now facts lawful (inr same) caller =
    subst (λ h. IsNumbered (begun_by caller past) (entries_of caller h)) (sym same) (lawful.numbered caller)

-- the facts once a server has done what is fair, before its packets are in the bag
grown_world : (past : List Turn) (world : World) (id : ServerId) (old : Server) (reaction : Reaction Server)
    (now : List Entry) → IsMoment past world id old → IsPrefix world.history now
    → (now ≡ world.history) ⊎ (now ≡ reaction.after.log) → IsFair past now reaction
    → AreFacts past (record world { servers = slice_set world.servers (id.0 - 1) reaction.after; history = now })
grown_world past world id old reaction now moment front kept_or_log fair =
    let i = id.0 - 1 in
    let servers = slice_set world.servers i reaction.after in
    let numbered = numbered_now past world reaction.after.log now moment.facts fair.log kept_or_log in
    let Now = IsTrueServer past now in
    let own : Now reaction.after = record { waiting = fair.waiting; log = fair.log } in
    grown_facts past world servers now front numbered (All-set Now world.servers i reaction.after own (servers_grown past world.history now world.servers front moment.facts.servers)) moment.facts

fair_goes_on : (past : List Turn) (world : World) (id : ServerId) (old : Server) (reaction : Reaction Server)
    → IsMoment past world id old
    → HistoryGrows world (slice_set world.servers (id.0 - 1) reaction.after) reaction.after
    → IsFair past (longest world.history (slice_set world.servers (id.0 - 1) reaction.after)) reaction
    → GoesOn past world (server_reacts world id reaction)
fair_goes_on past world id old reaction moment grows fair =
    let servers = slice_set world.servers (id.0 - 1) reaction.after in
    let now = longest world.history servers in
    let grown = grown_world past world id old reaction now moment grows.front grows.kept_or_log fair in
    record {
      taken = refl;
      facts = facts_after past (server_reacts world id reaction) (sent_facts past (record world { servers = servers; history = now }) reaction.sent fair.sent grown);
      tells = tells_nothing world (server_reacts world id reaction) refl refl grows.front;
    }

-- so every reaction of that shape keeps the facts
shape_goes_on : (past : List Turn) (world : World) (id : ServerId) (old : Server) (came : Option Packet)
    (reaction : Reaction Server) → IsMoment past world id old → IsSoundCame world came
    → IsTrueCame past world.history came → HasShape came old reaction
    → GoesOn past world (server_reacts world id reaction)
shape_goes_on past world id old came reaction moment sound known shape =
    let now = longest world.history (slice_set world.servers (id.0 - 1) reaction.after) in
    let grows = grows_or_stays world id old reaction moment.seat (shape_within world id old came reaction moment.seat sound shape) in
    fair_goes_on past world id old reaction moment grows (shape_fair past world id old came reaction now moment sound known shape grows.front grows.agreed)

-- and the adoption of a view
adopts_goes_on : (past : List Turn) (world : World) (id : ServerId) (old : Server) (view : View) → IsMoment past world id old
    → IsListed world.manager view → may_adopt old view ≡ true → GoesOn past world (server_reacts world id (adopts old view))
adopts_goes_on past world id old view moment listed may =
    let reaction = adopts old view in
    let now = longest world.history (slice_set world.servers (id.0 - 1) reaction.after) in
    let grows = grows_or_stays world id old reaction moment.seat (adopts_within world id old view moment.seat listed may) in
    let its = adoption_of old view (counted_of world id old moment.seat) in
    fair_goes_on past world id old reaction moment grows (adoption_fair past world id old view reaction now moment its grows.front grows.agreed)

-- the server takes a packet
taken_goes_on : (past : List Turn) (world : World) (id : ServerId) (packet : Packet) (server : Server)
    → IsMoment past world id server → IsSoundPacket (views_of world.manager) world.servers packet → IsTruePacket past world.history packet
    → IsTaken server packet → GoesOn past world (server_reacts world id (server_takes server packet))
taken_goes_on past world id packet server moment said known (adopts_view to view may) =
    subst (λ test. GoesOn past world (server_reacts world id (cond test (adopts server view) (ignored server)))) (sym may) (adopts_goes_on past world id server view moment said may)
taken_goes_on past world id packet server moment said known (has_shape any shape) =
    shape_goes_on past world id server (Some packet) (server_takes server packet) moment said known shape

pub takes_goes_on : (past : List Turn) (world : World) (id : ServerId) (packet : Packet) (found : Option Server)
    → server_at world id ≡ found → is_stopped world id ≡ false → IsSound world → AreFacts past world → IsSoundPacket (views_of world.manager) world.servers packet
    → IsTruePacket past world.history packet → GoesOn past world (arrives_at_server world id packet found)
takes_goes_on past world id packet None is runs sound facts said known = quiet_goes_on past world world refl facts
takes_goes_on past world id packet (Some server) is runs sound facts said known =
    let seat = seated world id server is runs sound in
    taken_goes_on past world id packet server (record { seat = seat; facts = facts }) said known (taken_of server packet (counted_of world id server seat))

-- it works
pub works_go_on : (past : List Turn) (world : World) (id : ServerId) (found : Option Server)
    → server_at world id ≡ found → turn_refusal world id found ≡ None → IsSound world → AreFacts past world → GoesOn past world (works world id found)
works_go_on past world id None is none sound facts = quiet_goes_on past world world refl facts
works_go_on past world id (Some server) is none sound facts =
    let runs = (may_turn world id (Some server) (if_full world) none).runs in
    let moment : IsMoment past world id server = record { seat = seated world id server is runs sound; facts = facts } in
    shape_goes_on past world id server None (server_works server) moment tt tt (works_shape server)

-- or its time has come
pub ticks_go_on : (past : List Turn) (world : World) (id : ServerId) (found : Option Server)
    → server_at world id ≡ found → turn_refusal world id found ≡ None → IsSound world → AreFacts past world → GoesOn past world (ticks_at world id found)
ticks_go_on past world id None is none sound facts = quiet_goes_on past world world refl facts
ticks_go_on past world id (Some server) is none sound facts =
    let runs = (may_turn world id (Some server) (if_full world) none).runs in
    let moment : IsMoment past world id server = record { seat = seated world id server is runs sound; facts = facts } in
    shape_goes_on past world id server None (server_ticks server) moment tt tt (ticks_shape server)
