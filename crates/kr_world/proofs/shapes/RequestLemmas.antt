-- What a server does with a client's request has the shape of a reaction.
use Rattle.std.proofs.Common.{◌≡◌, ℕ, ◌+◌, ◌-◌, Bool, true, false, cond, ◌&&◌, eqb, ltb, [], ◌∷◌, ◌++◌, length, refl, sym, ap, ◌∙◌, arith, inr}
use Rattle.std.specs.Prelude.{Option, None, Some, is_none}
use Rattle.std.proofs.lemmas.Bool.{false≢true, and_parts}
use Rattle.std.proofs.lemmas.List.{length-append}
use Rattle.std.proofs.lemmas.List.Elements.{All-nil, All-cons}
use Rattle.kr_order.specs.declared.ids.ClientId.{ClientId}
use Rattle.kr_order.specs.declared.ids.ServerId.{ServerId}
use Rattle.kr_order.specs.declared.history.Command.{Command}
use Rattle.kr_order.specs.declared.history.Entry.{Entry}
use Rattle.kr_order.specs.declared.history.DoneEntry.{DoneEntry}
use Rattle.kr_order.specs.declared.message.Node as nodes
use Rattle.kr_order.specs.declared.message.Node.TheVariants.{Client as OfClient}
use Rattle.kr_order.specs.declared.message.Message.TheVariants.{Request}
use Rattle.kr_order.specs.declared.message.Packet.{Packet}
use Rattle.kr_order.specs.declared.view.View.{View}
use Rattle.kr_order.specs.History.{highest_seq}
use Rattle.kr_order.specs.Done.{done_of, last_of}
use Rattle.kr_order.specs.View.{in_chain, next_of, prev_of, is_tail, is_head}
use Rattle.kr_protocol.specs.Reaction.{ignored}
use Rattle.kr_protocol.specs.Server.{Server, sends, viewed, acknowledged, is_at_tail, is_first, is_member, advances, appended, window, reply_packet, enters, may_enter, enters_new, requested, after_request}
use Rattle.kr_world.proofs.shapes.ShapeLemmas.{gains_command, done_before, done_all, waits_on, sends_reply, IsSent, HasShape, IsCounted}
use Rattle.kr_world.proofs.shapes.SendLemmas.{replies_few, replies_sent, tail_replies, last_among, window_few, window_sent, window_some}
use Rattle.kr_world.proofs.shapes.TurnLemmas.{stays_shape, ignored_shape}

-- a first member that is not the tail has one after it
member_next :
    (view : Option View) (id : ServerId)
    → viewed false is_head view id ≡ true
    → viewed false is_tail view id ≡ false
    → is_none (viewed None next_of view id) ≡ false
member_next None id is tail = absurd (false≢true is)
member_next (Some view) id is tail =
    let member = (and_parts (in_chain view id) (is_none (prev_of view id)) is).0 in
    sym (ap (λ b. b && is_none (next_of view id)) member) ∙ tail

-- a request that comes, and the entry that it asks for
abbrev entry_of : ClientId → ℕ → Command → Entry
entry_of client seq command = record { client = client; seq = seq; command = command }

abbrev request : ClientId → nodes.Node → ℕ → Command → Option Packet
request client to seq command = Some (record { from = OfClient client; to = to; message = Request seq command })

-- a new command enters the log of the tail, if it is the first member too
enters_tail :
    (server : Server) (client : ClientId) (to : nodes.Node) (seq : ℕ) (command : Command)
    → IsCounted server
    → may_enter server (entry_of client seq command) ≡ true
    → is_at_tail server ≡ true
    → HasShape (request client to seq command) server (advances (appended server (entry_of client seq command ∷ [])) (length (server.log ++ entry_of client seq command ∷ [])))
enters_tail server client to seq command counted may tail =
    let more = entry_of client seq command ∷ [] in
    let grown = appended server more in
    let upto = length (server.log ++ more) in
    let long : upto ≡ length server.log + 1 = length-append server.log more in
    let done = counted.done in
    let few = replies_few grown upto in
    record {
      id = refl;
      view = refl;
      need = refl;
      more = more;
      log = refl;
      gains = gains_command client to seq command may;
      done = done_all (request client to seq command) more tail;
      fed = omega arith;
      waiting = waits_on (request client to seq command);
      sent = replies_sent (request client to seq command) server grown upto;
      replies = upto - server.done;
      middle = λ other. absurd (false≢true (sym other ∙ tail));
      newly = omega arith;
      few = omega arith;
      some = inr (tail_replies grown upto tail (omega arith) (omega arith));
    }

-- or that of the first of several members
enters_first :
    (server : Server) (client : ClientId) (to : nodes.Node) (seq : ℕ) (command : Command)
    → IsCounted server
    → may_enter server (entry_of client seq command) ≡ true
    → is_at_tail server ≡ false
    → HasShape (request client to seq command) server (sends (appended server (entry_of client seq command ∷ [])) (window (appended server (entry_of client seq command ∷ []))))
enters_first server client to seq command counted may tail =
    let more = entry_of client seq command ∷ [] in
    let grown = appended server more in
    let first = (and_parts (is_first server) (ltb (highest_seq client server.log) seq) may).0 in
    let long : length (server.log ++ more) ≡ length server.log + 1 = length-append server.log more in
    let fed = counted.fed in
    let few = window_few grown in
    record {
      id = refl;
      view = refl;
      need = refl;
      more = more;
      log = refl;
      gains = gains_command client to seq command may;
      done = done_before (request client to seq command) more tail;
      fed = omega arith;
      waiting = waits_on (request client to seq command);
      sent = window_sent (request client to seq command) server grown;
      replies = 0;
      middle = λ other. refl;
      newly = omega arith;
      few = omega arith;
      some = inr (window_some grown (member_next server.view server.id first tail) (omega arith));
    }

enters_new_shape :
    (server : Server) (client : ClientId) (to : nodes.Node) (seq : ℕ) (command : Command)
    → IsCounted server
    → HasShape (request client to seq command) server (enters_new server (entry_of client seq command))
enters_new_shape server client to seq command counted = by_test (may_enter server entry) refl
  where
    entry : Entry
    entry = entry_of client seq command

    grown : Server
    grown = appended server (entry ∷ [])

    by_tail :
        (tail : Bool)
        → may_enter server entry ≡ true
        → is_at_tail server ≡ tail
        → HasShape (request client to seq command) server (cond tail (advances grown (length (server.log ++ entry ∷ []))) (sends grown (window grown)))
    by_tail true may tail = enters_tail server client to seq command counted may tail
    by_tail false may tail = enters_first server client to seq command counted may tail

    by_test :
        (may : Bool)
        → may_enter server entry ≡ may
        → HasShape (request client to seq command) server (cond may (enters server entry) (ignored server))
    by_test true may = by_tail (is_at_tail server) may refl
    by_test false may = ignored_shape (request client to seq command) server

requested_shape :
    (server : Server) (client : ClientId) (to : nodes.Node) (seq : ℕ) (command : Command) (last : Option DoneEntry)
    → IsCounted server
    → last_of client (done_of (acknowledged server)) ≡ last
    → HasShape (request client to seq command) server (requested server (entry_of client seq command) last)
requested_shape server client to seq command None counted is = enters_new_shape server client to seq command counted
requested_shape server client to seq command (Some last) counted is = by_test (eqb last.entry.seq seq)
  where
    by_test :
        (same : Bool)
        → HasShape (request client to seq command) server (cond same (sends server (reply_packet server.id last ∷ [])) (enters_new server (entry_of client seq command)))
    by_test true =
        let among = last_among client (done_of (acknowledged server)) last is in
        let sent = All-cons (IsSent (request client to seq command) server server) (reply_packet server.id last) [] (sends_reply last among) (All-nil (IsSent (request client to seq command) server server)) in
        stays_shape (request client to seq command) server (reply_packet server.id last ∷ []) sent (omega arith)
    by_test false = enters_new_shape server client to seq command counted

pub request_shape :
    (server : Server) (client : ClientId) (to : nodes.Node) (seq : ℕ) (command : Command)
    → IsCounted server
    → HasShape (Some (record { from = OfClient client; to = to; message = Request seq command })) server (after_request server client seq command)
request_shape server client to seq command counted = by_test (is_member server)
  where
    last : Option DoneEntry
    last = last_of client (done_of (acknowledged server))

    by_test :
        (member : Bool)
        → HasShape (request client to seq command) server (cond member (requested server (entry_of client seq command) last) (ignored server))
    by_test true = requested_shape server client to seq command last counted refl
    by_test false = ignored_shape (request client to seq command) server
