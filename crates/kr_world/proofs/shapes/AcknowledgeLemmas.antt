-- What a server does with an acknowledgement has the shape of a reaction.
use Rattle.std.proofs.Common.{◌≡◌, ℕ, ◌≤◌, Bool, true, false, ◌⊎◌, cond, ◌&&◌, leb, ltb, List, [], ◌∷◌, ◌++◌, length, map, refl, sym, ap, subst, arith, inl, inr}
use Rattle.std.specs.Prelude.{min, max, Option, Some, All}
use Rattle.std.proofs.lemmas.Bool.{and_parts, cond-false, leb-true, ltb-true}
use Rattle.std.proofs.lemmas.List.{append-nil, length-append}
use Rattle.std.proofs.lemmas.List.Elements.{All-nil, All-cons, All-append}
use Rattle.kr_order.specs.declared.ids.ServerId.{ServerId}
use Rattle.kr_order.specs.declared.message.Node as nodes
use Rattle.kr_order.specs.declared.message.Node.TheVariants.{Server as OfServer}
use Rattle.kr_order.specs.declared.message.Message.TheVariants.{Ack}
use Rattle.kr_order.specs.declared.message.Packet.{Packet}
use Rattle.kr_protocol.specs.Reaction.{Reaction, ignored}
use Rattle.kr_protocol.specs.Server.{Server, sends, follows, is_at_tail, is_server, next, prev, behind, lasts, newly_applied, advances, window, ack, reply_packet, joined_packet, acknowledges, feeds, tells_joined, hears, after_ack}
use Rattle.kr_world.proofs.chain.ChainLemmas.{some_one}
use Rattle.kr_world.proofs.chain.SeatLemmas.{next_not_tail}
use Rattle.kr_world.proofs.shapes.ShapeLemmas.{Acknowledges, gains_none, done_stays, done_told, waits_on, IsSent, sends_joined, HasShape, IsCounted}
use Rattle.kr_world.proofs.shapes.SendLemmas.{window_few, window_sent, ack_few, ack_sent}
use Rattle.kr_world.proofs.shapes.TurnLemmas.{ignored_shape}

-- a reaction of which two packets are sent at the most
record IsShort (came : Option Packet) (server : Server) (reaction : Reaction Server) : Type 0 where
  shape : HasShape came server reaction
  few : length reaction.sent ≤ 2

-- a server has so many acknowledged entries, has sent what it says of that, and feeds the next one
feeds_shape :
    (server : Server) (came : Option Packet) (done upto : ℕ) (said : List Packet)
    → Acknowledges server came [] done
    → upto ≤ length server.log
    → length said ≤ 1
    → ((fed : ℕ) → All (IsSent came server (record server { done = done; fed = fed })) said)
    → IsShort came server (follows (sends (record server { done = done }) said) (λ after. feeds after upto))
feeds_shape server came done upto said acknowledges most few says = by_test (ltb server.fed upto && ltb upto (length server.log))
  where
    after : Server
    after = record server { done = done; fed = max server.fed upto }

    shape :
        (passed : List Packet)
        → length passed ≤ 1
        → All (IsSent came server after) passed
        → IsShort came server (record { after = after; sent = said ++ passed })
    shape passed one passes =
        record {
          shape = record {
            id = refl;
            view = refl;
            need = refl;
            more = [];
            log = sym (append-nil server.log);
            gains = gains_none came;
            done = acknowledges;
            fed = omega arith;
            waiting = waits_on came;
            sent = All-append (IsSent came server after) said passed (says (max server.fed upto)) passes;
            replies = 0;
            middle = λ other. refl;
            newly = omega arith;
            few = omega (arith, length-append said passed);
            some = inl refl;
          };
          few = omega (arith, length-append said passed);
        }

    by_test :
        (news : Bool)
        → IsShort came server (record { after = after; sent = said ++ cond news (window after) [] })
    by_test true = shape (window after) (window_few after) (window_sent came server after)
    by_test false = shape [] (omega arith) (All-nil (IsSent came server after))

-- what is done with an acknowledgement of the next server, but for what the manager is told
abbrev acked : Server → ℕ → ℕ → Reaction Server
acked server done len =
    follows (acknowledges server (min done (length server.log))) (λ after. feeds after (min len (length after.log)))

-- and then the manager is told of the joiner, where that has what it has to have
told_shape :
    (server : Server) (from : ServerId) (to : nodes.Node) (done len : ℕ) (reaction : Reaction Server)
    → IsShort (Some (record { from = OfServer from; to = to; message = Ack done len })) server reaction
    → HasShape (Some (record { from = OfServer from; to = to; message = Ack done len })) server (follows reaction (λ after. tells_joined after from len))
told_shape server from to done len reaction short = by_test (is_server (behind after) from && leb after.need len) refl
  where
    after : Server
    after = reaction.after

    came : Option Packet
    came = Some (record { from = OfServer from; to = to; message = Ack done len })

    shape :
        (told : List Packet)
        → length told ≤ 1
        → All (IsSent came server after) told
        → HasShape came server (record { after = after; sent = reaction.sent ++ told })
    shape told one tells =
        let its = short.shape in
        let two = short.few in
        let long = length-append reaction.sent told in
        record {
          id = its.id;
          view = its.view;
          need = its.need;
          more = its.more;
          log = its.log;
          gains = its.gains;
          done = its.done;
          fed = its.fed;
          waiting = its.waiting;
          sent = All-append (IsSent came server after) reaction.sent told its.sent tells;
          replies = 0;
          middle = λ other. refl;
          newly = omega arith;
          few = omega arith;
          some = still_some its.some;
        }
      where
        still_some : (short.shape.more ≡ []) ⊎ (1 ≤ length reaction.sent) → (short.shape.more ≡ []) ⊎ (1 ≤ length (reaction.sent ++ told))
        still_some (inl none) = inl none
        still_some (inr some) = inr (omega (arith, length-append reaction.sent told))

    by_test :
        (caught : Bool)
        → (is_server (behind after) from && leb after.need len) ≡ caught
        → HasShape came server (record { after = after; sent = reaction.sent ++ cond caught (joined_packet after from ∷ []) [] })
    by_test true is =
        let tests = and_parts (is_server (behind after) from) (leb after.need len) is in
        let told : IsSent came server after (joined_packet after from) =
        sends_joined from to done len refl (some_one (behind after) from tests.0) (leb-true after.need len tests.1) in
        shape (joined_packet after from ∷ []) (omega arith) (All-cons (IsSent came server after) (joined_packet after from) [] told (All-nil (IsSent came server after)))
    by_test false is = shape [] (omega arith) (All-nil (IsSent came server after))

-- who is not the tail says no more than that
acks_shape :
    (server : Server) (from : ServerId) (to : nodes.Node) (done len : ℕ)
    → IsCounted server
    → is_server (next server) from ≡ true
    → IsShort (Some (record { from = OfServer from; to = to; message = Ack done len })) server (acked server done len)
acks_shape server from to done len counted taken = by_test (ltb server.done (min done (length server.log))) refl
  where
    upto : ℕ
    upto = min done (length server.log)

    came : Option Packet
    came = Some (record { from = OfServer from; to = to; message = Ack done len })

    by_test :
        (more : Bool)
        → ltb server.done upto ≡ more
        → IsShort came server (follows (cond more (follows (advances server upto) (λ after. sends after (ack after))) (sends server [])) (λ after. feeds after (min len (length after.log))))
    by_test true is =
        let after = record server { done = upto } in
        let middle : is_at_tail server ≡ false = next_not_tail server.view server.id from (some_one (next server) from taken) in
        let quiet : (advances server upto).sent ≡ [] =
        cond-false (is_at_tail server) (map (reply_packet server.id) (lasts (newly_applied server upto))) [] middle in
        let same : sends after ((advances server upto).sent ++ ack after) ≡ sends after (ack after) =
        ap (λ l. sends after (l ++ ack after)) quiet in
        let told = done_told from to done len upto taken (ltb-true server.done upto is) (omega arith) (omega arith) in
        let fed =
        feeds_shape server came upto (min len (length server.log)) (ack after) told (omega arith) (ack_few after (prev after))
        (λ fed. ack_sent came server (record after { fed = fed }) (prev after)) in
        subst (λ first. IsShort came server (follows first (λ s. feeds s (min len (length s.log))))) (sym same) fed
    by_test false is =
        feeds_shape server came server.done (min len (length server.log)) [] (done_stays came) (omega arith) (omega arith) (λ fed. All-nil (IsSent came server (record server { fed = fed })))

pub ack_shape :
    (server : Server) (from : ServerId) (to : nodes.Node) (done len : ℕ)
    → IsCounted server
    → HasShape (Some (record { from = OfServer from; to = to; message = Ack done len })) server (after_ack server from done len)
ack_shape server from to done len counted = by_test (is_server (next server) from) refl
  where
    came : Option Packet
    came = Some (record { from = OfServer from; to = to; message = Ack done len })

    by_test :
        (taken : Bool)
        → is_server (next server) from ≡ taken
        → HasShape came server (cond taken (hears server from done len) (ignored server))
    by_test true is = told_shape server from to done len (acked server done len) (acks_shape server from to done len counted is)
    by_test false is = ignored_shape came server
