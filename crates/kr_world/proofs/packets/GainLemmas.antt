-- A server's log stays lawful with what it gains, and the queries that wait at it were asked.
use Rattle.std.proofs.Common.{◌≡◌, ◌+◌, ◌-◌, ◌<◌, ◌≤◌, true, ltb, List, [], ◌∷◌, ◌++◌, length, refl, sym, subst, arith, inl, inr}
use Rattle.std.specs.Prelude.{Option, None, Some, slice_get, All}
use Rattle.std.proofs.lemmas.Bool.{cases_eq, and_parts, ltb-true}
use Rattle.std.proofs.lemmas.List.{append-nil}
use Rattle.std.proofs.lemmas.List.Elements.{All-nil, All-push, All-take}
use Rattle.std.proofs.lemmas.Option.{slice_get_within}
use Rattle.kr_order.specs.declared.ids.ServerId.{ServerId}
use Rattle.kr_order.specs.declared.answer.Query.{Query}
use Rattle.kr_order.specs.declared.history.Entry.{Entry}
use Rattle.kr_order.specs.declared.message.Packet.{Packet}
use Rattle.kr_order.specs.History.{highest_seq}
use Rattle.kr_order.specs.Prefix.{IsPrefix}
use Rattle.kr_order.proofs.PrefixLemmas.{take_front}
use Rattle.kr_protocol.specs.Server.{Server, is_member, is_first, missing}
use Rattle.kr_world.specs.World.{World}
use Rattle.kr_world.specs.Run.{Turn}
use Rattle.kr_world.specs.Sound.{AreInLog}
use Rattle.kr_world.specs.Lawful.{IsNumbered, begun_by, entries_of}
use Rattle.kr_world.specs.Facts.{HasBegun, IsTrueQuery, IsLawfulLog, IsTrueServer, IsTruePacket}
use Rattle.kr_world.proofs.steps.StepLemmas.{at_index}
use Rattle.kr_world.proofs.chain.SeatLemmas.{seat_holds, first_member}
use Rattle.kr_world.proofs.shapes.ShapeLemmas.{Gains, gains_none, gains_command, gains_entries, Waits, waits_on, waits_more, waits_none}
use Rattle.kr_world.proofs.bounds.BelowLemmas.{IsSoundCame, append_below}
use Rattle.kr_world.proofs.packets.EntryLemmas.{IsInOrder, entries_of-own, entries_of-other, numbered_push, numbered_front, entries_front, count_within}
use Rattle.kr_world.proofs.packets.PacketLemmas.{same_client}
use Rattle.kr_world.proofs.packets.FineLemmas.{IsMoment, own_true}

-- a command of which the log has not as many is its client's next
next_in_order : (past : List Turn) (log : List Entry) (entry : Entry)
    → length (begun_by entry.client past) ≤ length (entries_of entry.client log) + 1
    → HasBegun past entry.client entry.seq entry.command → length (entries_of entry.client log) < entry.seq
    → IsInOrder (begun_by entry.client past) (entries_of entry.client log) entry
next_in_order past log entry open_before known more =
    let begun = begun_by entry.client past in
    let within = slice_get_within begun (entry.seq - 1) entry.command known.begun in
    let index : entry.seq - 1 ≡ length (entries_of entry.client log) = omega arith in
    record { seq = omega arith; command = subst (λ k. slice_get begun k ≡ Some entry.command) index known.begun }

-- the log with its client's next command
pushed_lawful : (past : List Turn) (log : List Entry) (entry : Entry) → IsLawfulLog past log → 1 ≤ entry.client.0
    → IsInOrder (begun_by entry.client past) (entries_of entry.client log) entry
    → IsLawfulLog past (log ++ entry ∷ [])
pushed_lawful past log entry known low next =
    let begun = begun_by entry.client past in
    let longer = log ++ entry ∷ [] in
    record {
      callers = All-push (λ e. 1 ≤ e.client.0) log entry known.callers low;
      numbered = λ caller. elim (cases_eq entry.client.0 caller.0) [
        | inl own ↦
            let pushed = numbered_push begun (entries_of entry.client log) entry (known.numbered entry.client) next in
            let its : IsNumbered begun (entries_of entry.client longer) = subst (λ es. IsNumbered begun es) (sym (entries_of-own entry.client log entry [] refl)) pushed in
            subst (λ c. IsNumbered (begun_by c past) (entries_of c longer)) (same_client entry.client caller own) its
        | inr other ↦ subst (λ es. IsNumbered (begun_by caller past) es) (sym (entries_of-other caller log entry other)) (known.numbered caller)
      ];
    }

-- a front of a lawful log is lawful
front_lawful : (past : List Turn) (log longer : List Entry) → IsPrefix log longer → IsLawfulLog past longer
    → IsLawfulLog past log
front_lawful past log longer front known =
    record {
      callers = subst (All (λ e. 1 ≤ e.client.0)) (take_front log longer front) (All-take (λ e. 1 ≤ e.client.0) (length log) longer known.callers);
      numbered = λ caller. numbered_front (begun_by caller past) caller log longer front (known.numbered caller);
    }

-- a command that its client began, and that is past all of the client's in the log
entered_lawful : (past : List Turn) (world : World) (id : ServerId) (server : Server) (entry : Entry)
    → IsMoment past world id server → is_member server ≡ true → HasBegun past entry.client entry.seq entry.command
    → highest_seq entry.client server.log < entry.seq → IsLawfulLog past (server.log ++ entry ∷ [])
entered_lawful past world id server entry moment member known newer =
    let own = own_true past world id server moment in
    let open_before = moment.facts.in_step.one_open entry.client in
    let more = entries_front entry.client world.history server.log (seat_holds world id server moment.seat member) in
    let fewer = count_within (begun_by entry.client past) entry.client server.log (own.log.numbered entry.client) in
    pushed_lawful past server.log entry own.log known.caller_low (next_in_order past server.log entry (omega arith) known (omega arith))

-- the packet that came, if one did, is true
abbrev pub IsTrueCame : List Turn → List Entry → Option Packet → Type 0
IsTrueCame past history None = Unit {0}
IsTrueCame past history (Some packet) = IsTruePacket past history packet

-- whatever entries come to the end of the log
pub gains_lawful : (past : List Turn) (world : World) (id : ServerId) (server : Server) (came : Option Packet)
    (more : List Entry) → IsMoment past world id server → IsSoundCame world came
    → IsTrueCame past world.history came → Gains server came more → IsLawfulLog past (server.log ++ more)
gains_lawful past world id server came more moment sound known (gains_none none) =
    subst (IsLawfulLog past) (sym (append-nil server.log)) (own_true past world id server moment).log
gains_lawful past world id server came more moment sound known (gains_command client to seq command may) =
    let entry : Entry = record { client = client; seq = seq; command = command } in
    let tests = and_parts (is_first server) (ltb (highest_seq client server.log) seq) may in
    entered_lawful past world id server entry moment (first_member server tests.0) known (ltb-true (highest_seq client server.log) seq tests.1)
gains_lawful past world id server came more moment sound known (gains_entries from to first entries is) =
    let said : AreInLog world.servers from first entries = sound in
    let its = at_index (IsTrueServer past world.history) world.servers (from.0 - 1) said.sender moment.facts.servers said.there in
    let longer = append_below world id server from first entries moment.seat said is in
    front_lawful past (server.log ++ missing server.log first entries) said.sender.log longer its.log

-- and whatever queries wait, they were asked
pub waits_asked : (past : List Turn) (history : List Entry) (server : Server) (came : Option Packet)
    (waiting : List Query) → IsTrueServer past history server → IsTrueCame past history came
    → Waits server came waiting → All (IsTrueQuery past history) waiting
waits_asked past history server came waiting own known (waits_on any) = own.waiting
waits_asked past history server came waiting own known (waits_more client to q part pairs room) =
    All-push (IsTrueQuery past history) server.waiting (record { client = client; q = q; part = part; pairs = pairs }) own.waiting known
waits_asked past history server came waiting own known (waits_none any) = All-nil (IsTrueQuery past history)
