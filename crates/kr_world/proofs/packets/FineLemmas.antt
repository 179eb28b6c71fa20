-- What a server sends is true.
use Rattle.std.proofs.Common.{◌≡◌, ◌-◌, ◌≤◌, List, [], ◌∷◌, ◌++◌, length, take, sym, ap, ◌∙◌, subst, arith}
use Rattle.std.specs.Prelude.{Option, All, Contains}
use Rattle.std.proofs.lemmas.List.{append_assoc, length-take-le}
use Rattle.std.proofs.lemmas.List.Elements.{All-nil, All-cons, All-head, All-tail, All-take, All-contains}
use Rattle.kr_order.specs.declared.ids.ServerId.{ServerId}
use Rattle.kr_order.specs.declared.answer.Query.{Query}
use Rattle.kr_order.specs.declared.history.Entry.{Entry}
use Rattle.kr_order.specs.declared.history.DoneEntry.{DoneEntry}
use Rattle.kr_order.specs.declared.message.Packet.{Packet}
use Rattle.kr_order.specs.Answer.{answers_after}
use Rattle.kr_order.specs.Done.{done_after, done_from, done_of}
use Rattle.kr_order.specs.Prefix.{IsPrefix}
use Rattle.kr_order.proofs.PrefixLemmas.{IsPrefix-trans, IsPrefix-length, take_front}
use Rattle.kr_protocol.specs.Server.{Server, acknowledged, is_at_tail, told_by, answer_packet}
use Rattle.kr_world.specs.World.{World}
use Rattle.kr_world.specs.Run.{Turn}
use Rattle.kr_world.specs.Facts.{StandsAt, IsTrueQuery, IsTrueServer, IsTruePacket, AreFacts}
use Rattle.kr_world.proofs.steps.StepLemmas.{at_index}
use Rattle.kr_world.proofs.chain.SeatLemmas.{IsSeated, own_of}
use Rattle.kr_world.proofs.bounds.ReactionLemmas.{tail_log}
use Rattle.kr_world.proofs.shapes.ShapeLemmas.{IsSent, sends_reply, sends_ack, sends_window, sends_answer, sends_view, sends_joined}
use Rattle.kr_world.proofs.packets.PacketLemmas.{stands_later, entry_stands}

-- a server takes its turn in a sound world that has the facts
pub record IsMoment (past : List Turn) (world : World) (id : ServerId) (server : Server) : Type 0 where
  pub seat : IsSeated world id server
  pub facts : AreFacts past world

pub own_true : (past : List Turn) (world : World) (id : ServerId) (server : Server) → IsMoment past world id server
    → IsTrueServer past world.history server
own_true past world id server moment = at_index (IsTrueServer past world.history) world.servers (id.0 - 1) server moment.facts.servers moment.seat.at

-- the entry that is done stands at its place in the history
abbrev StandsThere : List Entry → DoneEntry → Type 0
StandsThere history done = StandsAt history done.entry.client done.entry.seq (record { place = done.place; reply = done.reply })

-- each entry that is done stands at its place
dones_stand : (before more : List Entry) → All (λ entry. 1 ≤ entry.client.0) more
    → All (StandsThere (before ++ more)) (done_from before more)
dones_stand before [] low = All-nil (StandsThere (before ++ []))
dones_stand before (entry ∷ more) low =
    let rest = dones_stand (before ++ entry ∷ []) more (All-tail (λ e. 1 ≤ e.client.0) entry more low) in
    let own = entry_stands before entry more (All-head (λ e. 1 ≤ e.client.0) entry more low) in
    let dones = done_from (before ++ entry ∷ []) more in
    let others = subst (λ h. All (StandsThere h) dones) (append_assoc before (entry ∷ []) more) rest in
    All-cons (StandsThere (before ++ entry ∷ more)) (done_after before entry) dones own others

-- also where the history goes on
done_stands : (history now : List Entry) (done : DoneEntry) → All (λ entry. 1 ≤ entry.client.0) history
    → IsPrefix history now → Contains (done_of history) done → StandsThere now done
done_stands history now done low front among =
    let stands = All-contains (StandsThere history) (done_of history) done (dones_stand [] history low) among in
    subst (λ h. StandsThere h done) (sym front.is) (stands_later history front.more done.entry.client done.entry.seq (record { place = done.place; reply = done.reply }) stands)

-- what is answered to a query is true; the tail's answers are of all of the history
answer_true : (past : List Turn) (world : World) (id : ServerId) (server : Server) (now : List Entry) (query : Query)
    → IsMoment past world id server → IsPrefix world.history now → IsTrueQuery past world.history query
    → IsTruePacket past now (answer_packet server query)
answer_true past world id server now query moment grown asked =
    let own = own_of world id server moment.seat in
    let prefix = acknowledged server in
    let agreed : IsPrefix prefix now = IsPrefix-trans prefix world.history now own.agreed grown in
    let long : length prefix ≡ server.done = length-take-le server.done server.log own.done in
    let front : take server.done now ≡ prefix = ap (λ n. take n now) (sym long) ∙ take_front prefix now agreed in
    let seen_within = asked.within in
    record {
      pairs = query.pairs;
      seen = asked.seen;
      asked = asked.asked;
      within = omega (arith, IsPrefix-length prefix now agreed);
      tail = is_at_tail server;
      answers = ap (λ h. told_by (is_at_tail server) (answers_after h query.pairs)) (sym front);
      current = λ tail.
          let full = own.full tail in
          omega (arith, ap length (tail_log world id server moment.seat tail));
    }

-- what is known of a server that goes on, and of the history then
pub record IsKnown (world : World) (now : List Entry) (after : Server) : Type 0 where
  pub grown : IsPrefix world.history now
  pub agreed : IsPrefix (acknowledged after) now
  pub callers : All (λ entry. 1 ≤ entry.client.0) after.log

-- each packet that a server may send is true
pub sent_true : (past : List Turn) (world : World) (id : ServerId) (came : Option Packet) (old after : Server) (now : List Entry)
    → IsMoment past world id old → IsKnown world now after → (packet : Packet) → IsSent came old after packet
    → IsTruePacket past now packet
sent_true past world id came old after now moment known packet (sends_reply done among) =
    done_stands (acknowledged after) now done (All-take (λ e. 1 ≤ e.client.0) after.done after.log known.callers) known.agreed among
sent_true past world id came old after now moment known packet (sends_ack to) = tt
sent_true past world id came old after now moment known packet (sends_window to) = tt
sent_true past world id came old after now moment known packet (sends_answer query among) =
    answer_true past world id old now query moment known.grown (All-contains (IsTrueQuery past world.history) old.waiting query (own_true past world id old moment).waiting among)
sent_true past world id came old after now moment known packet (sends_view view query) = tt
sent_true past world id came old after now moment known packet (sends_joined from to done len is behind enough) = tt
