-- What a server does with entries has the shape of a reaction.
use Rattle.std.proofs.Common.{◌≡◌, ℕ, ◌+◌, ◌-◌, Bool, true, false, cond, List, [], ◌++◌, length, refl, sym, ◌∙◌, arith, inr}
use Rattle.std.specs.Prelude.{Option, Some, All}
use Rattle.std.proofs.lemmas.Bool.{false≢true}
use Rattle.std.proofs.lemmas.List.{length-append}
use Rattle.std.proofs.lemmas.List.Elements.{All-append}
use Rattle.kr_order.specs.declared.ids.ServerId.{ServerId}
use Rattle.kr_order.specs.declared.history.Entry.{Entry}
use Rattle.kr_order.specs.declared.message.Node as nodes
use Rattle.kr_order.specs.declared.message.Node.TheVariants.{Server as OfServer}
use Rattle.kr_order.specs.declared.message.Message.TheVariants.{Append}
use Rattle.kr_order.specs.declared.message.Packet.{Packet}
use Rattle.kr_protocol.specs.Reaction.{ignored}
use Rattle.kr_protocol.specs.Server.{Server, sends, follows, is_at_tail, is_server, prev, advances, appended, ack_to, missing, passes_on, takes_entries, after_append}
use Rattle.kr_world.proofs.shapes.ShapeLemmas.{Gains, gains_entries, done_before, done_all, waits_on, IsSent, HasShape}
use Rattle.kr_world.proofs.shapes.SendLemmas.{replies_few, replies_sent, ack_sent, passes_few, passes_sent}
use Rattle.kr_world.proofs.shapes.TurnLemmas.{ignored_shape}

-- what is sent behind the replies: an acknowledgement, and a window
behind_sent :
    (came : Option Packet) (old after : Server) (from : ServerId) (entries : List Entry)
    → All (IsSent came old after) (ack_to after (Some from) ++ passes_on after entries)
behind_sent came old after from entries =
    All-append (IsSent came old after) (ack_to after (Some from)) (passes_on after entries) (ack_sent came old after (Some from)) (passes_sent came old after entries)

-- entries at the end of the tail's log are acknowledged
taken_at_tail :
    (server : Server) (came : Option Packet) (from : ServerId) (entries : List Entry)
    → Gains server came entries
    → is_at_tail server ≡ true
    → HasShape came server (follows (advances (appended server entries) (length (server.log ++ entries))) (λ after. sends after (ack_to after (Some from) ++ passes_on after entries)))
taken_at_tail server came from entries gains tail =
    let grown = appended server entries in
    let upto = length (server.log ++ entries) in
    let after = record grown { done = upto } in
    let replies = (advances grown upto).sent in
    let behind = ack_to after (Some from) ++ passes_on after entries in
    let few = replies_few grown upto in
    let passes = passes_few after entries in
    let one : length behind ≡ 1 + length (passes_on after entries) = length-append (ack_to after (Some from)) (passes_on after entries) in
    let all : length (replies ++ behind) ≡ length replies + length behind = length-append replies behind in
    record {
      id = refl;
      view = refl;
      need = refl;
      more = entries;
      log = refl;
      gains = gains;
      done = done_all came entries tail;
      fed = omega arith;
      waiting = waits_on came;
      sent = All-append (IsSent came server after) replies behind (replies_sent came server grown upto) (behind_sent came server after from entries);
      replies = upto - server.done;
      middle = λ other. absurd (false≢true (sym other ∙ tail));
      newly = omega arith;
      few = omega arith;
      some = inr (omega arith);
    }

-- and are passed on by who is not the tail
taken_before :
    (server : Server) (came : Option Packet) (from : ServerId) (entries : List Entry)
    → Gains server came entries
    → is_at_tail server ≡ false
    → HasShape came server (sends (appended server entries) (ack_to (appended server entries) (Some from) ++ passes_on (appended server entries) entries))
taken_before server came from entries gains tail =
    let after = appended server entries in
    let passes = passes_few after entries in
    let one : length (ack_to after (Some from) ++ passes_on after entries) ≡ 1 + length (passes_on after entries) =
    length-append (ack_to after (Some from)) (passes_on after entries) in
    record {
      id = refl;
      view = refl;
      need = refl;
      more = entries;
      log = refl;
      gains = gains;
      done = done_before came entries tail;
      fed = omega arith;
      waiting = waits_on came;
      sent = behind_sent came server after from entries;
      replies = 0;
      middle = λ other. refl;
      newly = omega arith;
      few = omega arith;
      some = inr (omega arith);
    }

taken_shape :
    (server : Server) (came : Option Packet) (from : ServerId) (entries : List Entry)
    → Gains server came entries
    → HasShape came server (takes_entries server from entries)
taken_shape server came from entries gains = by_test (is_at_tail server) refl
  where
    grown : Server
    grown = appended server entries

    by_test :
        (tail : Bool)
        → is_at_tail server ≡ tail
        → HasShape came server (follows (cond tail (advances grown (length (server.log ++ entries))) (sends grown [])) (λ after. sends after (ack_to after (Some from) ++ passes_on after entries)))
    by_test true tail = taken_at_tail server came from entries gains tail
    by_test false tail = taken_before server came from entries gains tail

pub append_shape :
    (server : Server) (from : ServerId) (to : nodes.Node) (first : ℕ) (entries : List Entry)
    → HasShape (Some (record { from = OfServer from; to = to; message = Append first entries })) server (after_append server from first entries)
append_shape server from to first entries = by_test (is_server (prev server) from) refl
  where
    came : Option Packet
    came = Some (record { from = OfServer from; to = to; message = Append first entries })

    by_test :
        (taken : Bool)
        → is_server (prev server) from ≡ taken
        → HasShape came server (cond taken (takes_entries server from (missing server.log first entries)) (ignored server))
    by_test true is = taken_shape server came from (missing server.log first entries) (gains_entries from to first entries is)
    by_test false is = ignored_shape came server
