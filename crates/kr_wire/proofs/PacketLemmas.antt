-- Messages and packets, as they are read and spelt.
use Rattle.std.proofs.Common.{◌≡◌, ℕ, zero, suc, ◌^◌, ◌<◌, Bool, cond, eqb, List, ◌++◌, length, Ok, Err, refl, sym, ap, subst, ◌∙◌, append_assoc, arith}
use Rattle.std.specs.Int.{w32, w64}
use Rattle.std.proofs.lemmas.Bool.{eqb-true}
use Rattle.kr_order.specs.declared.ids.EventId.{EventId}
use Rattle.kr_order.specs.declared.history.Command.{Command}
use Rattle.kr_order.specs.declared.history.Entry.{Entry}
use Rattle.kr_order.specs.declared.history.Reply.{Reply}
use Rattle.kr_order.specs.declared.answer.Answer.{Answer}
use Rattle.kr_order.specs.declared.view.View.{View}
use Rattle.kr_order.specs.declared.message.Node.{Node}
use Rattle.kr_order.specs.declared.message.Node.TheVariants.{Manager, Client, Server}
use Rattle.kr_order.specs.declared.message.Message.{Message}
use Rattle.kr_order.specs.declared.message.Message.TheVariants.{Request, Append, Ack, NewView, Replied, Ask, Answered, Refer, Joined}
use Rattle.kr_order.specs.declared.message.Packet.{Packet}
use Rattle.kr_wire.specs.declared.party.Party.{Party}
use Rattle.kr_wire.specs.declared.party.Party.TheVariants as party
use Rattle.kr_wire.specs.declared.party.MessageKind.{MessageKind}
use Rattle.kr_wire.specs.declared.party.MessageKind.TheVariants as kinds
use Rattle.kr_wire.specs.Valid.{IsId, IsNumber, IsFrom, AreItems, IsAskedPair, IsAnswer, IsCommand, IsEntry, IsReply, IsView, IsOf, IsMessage, IsPacket, sender_of, addressee_of}
use Rattle.kr_wire.specs.Spelling.{in_1, in_4, in_8, counted, asked_bytes, command_bytes, entry_bytes, reply_bytes, answer_bytes, view_bytes, node_bytes, message_number, message_fields, spelling}
use Rattle.kr_wire.specs.Reading.{Read, followed, both, above, number_at, byte_in, counted_at, asked_at, command_at, entry_at, reply_at, answer_at, server_of, view_at, node_at, kind_by, message_kind_at, sender_by, addressee_by, part_at, message_at, packet_by, packet_of, packet_at}
use Rattle.kr_wire.proofs.FieldLemmas.{IsBytes, Takes, IsRead, bind_ok, test_ok, followed_read, both_read, made_read, byte_read, id_read, positive_read, number_read_4, number_read_8}
use Rattle.kr_wire.proofs.ListLemmas.{counted_read}
use Rattle.kr_wire.proofs.ValueLemmas.{asked_read, command_read, entry_read, reply_read, answer_read, view_read}

-- ---- nodes

-- what is answered of the manager's number by the test of it
abbrev manager_answer : Bool → List ℕ → ℕ → Read Node
manager_answer zeroed rest left = cond zeroed (Ok (Manager, rest)) (Err left)

manager_read : IsRead (node_at party.Manager) node_bytes (IsOf party.Manager)
unfolding node_at
manager_read = record { takes = takes_manager; again = again_manager }
  where
    takes_manager : (bytes : List ℕ) (node : Node) (rest : List ℕ) → IsBytes bytes → node_at party.Manager bytes ≡ Ok (node, rest) → Takes node_bytes (IsOf party.Manager) bytes node rest
    takes_manager bytes node rest fits e =
        let n = bind_ok (number_at w32 bytes) (λ n. manager_answer (eqb n.0 0) n.1 (length bytes)) (node, rest) e in
        let g = test_ok (eqb n.0.0 0) (length bytes) (Manager, n.0.1) (node, rest) n.2 in
        let t = number_read_4.takes bytes n.0.0 n.0.1 fits n.1 in
        subst (λ (y : Node × List ℕ). Takes node_bytes (IsOf party.Manager) bytes y.0 y.1) g.1 (record { fit = tt; parts = t.parts ∙ ap (λ k. in_4 k ++ n.0.1) (eqb-true n.0.0 0 g.0); rest_fits = t.rest_fits })

    again_manager : (node : Node) (rest : List ℕ) → IsOf party.Manager node → node_at party.Manager (node_bytes node ++ rest) ≡ Ok (node, rest)
    again_manager Manager rest fit = rw (number_read_4.again 0 rest (omega arith)) refl
    again_manager (Client client) rest fit = absurd fit
    again_manager (Server server) rest fit = absurd fit

client_of : (node : Node) → IsOf party.Client node → (n : ℕ) × IsId n × (Client (record { 0 = n }) ≡ node)
client_of Manager fit = absurd fit
client_of (Client client) fit = (client.0, fit, refl)
client_of (Server server) fit = absurd fit

server_node_of : (node : Node) → IsOf party.Server node → (n : ℕ) × IsId n × (Server (record { 0 = n }) ≡ node)
server_node_of Manager fit = absurd fit
server_node_of (Client client) fit = absurd fit
server_node_of (Server server) fit = (server.0, fit, refl)

pub node_read : (of : Party) → IsRead (node_at of) node_bytes (IsOf of)
unfolding node_at
node_read party.Manager = manager_read
node_read party.Client =
    made_read (λ n. Client (record { 0 = n })) (above w32 0) in_4 IsId node_bytes (IsOf party.Client) (id_read 0) (record { spelt = λ n fit. refl; fit = λ n fit. fit; of = client_of })
node_read party.Server =
    made_read (λ n. Server (record { 0 = n })) (above w32 0) in_4 IsId node_bytes (IsOf party.Server) (id_read 0) (record { spelt = λ n fit. refl; fit = λ n fit. fit; of = server_node_of })

-- ---- kinds of messages

abbrev number_by : MessageKind → ℕ
number_by kinds.Request = 1
number_by kinds.Append = 2
number_by kinds.Ack = 3
number_by kinds.NewView = 4
number_by kinds.Ask = 5
number_by kinds.Replied = 6
number_by kinds.Answered = 7
number_by kinds.Refer = 8
number_by kinds.Joined = 9

number_by-kind_by : (n : ℕ) → IsFrom 1 9 n → number_by (kind_by n) ≡ n
number_by-kind_by zero fit = absurd (omega (arith, fit.least))
number_by-kind_by (suc zero) fit = refl
number_by-kind_by (suc (suc zero)) fit = refl
number_by-kind_by (suc (suc (suc zero))) fit = refl
number_by-kind_by (suc (suc (suc (suc zero)))) fit = refl
number_by-kind_by (suc (suc (suc (suc (suc zero))))) fit = refl
number_by-kind_by (suc (suc (suc (suc (suc (suc zero)))))) fit = refl
number_by-kind_by (suc (suc (suc (suc (suc (suc (suc zero))))))) fit = refl
number_by-kind_by (suc (suc (suc (suc (suc (suc (suc (suc zero)))))))) fit = refl
number_by-kind_by (suc (suc (suc (suc (suc (suc (suc (suc (suc zero))))))))) fit = refl
number_by-kind_by (suc (suc (suc (suc (suc (suc (suc (suc (suc (suc n)))))))))) fit = absurd (omega (arith, fit.most))

kind_is : (kind : MessageKind) → (n : ℕ) × IsFrom 1 9 n × (kind_by n ≡ kind)
kind_is kinds.Request = (1, record { least = omega arith; most = omega arith }, refl)
kind_is kinds.Append = (2, record { least = omega arith; most = omega arith }, refl)
kind_is kinds.Ack = (3, record { least = omega arith; most = omega arith }, refl)
kind_is kinds.NewView = (4, record { least = omega arith; most = omega arith }, refl)
kind_is kinds.Ask = (5, record { least = omega arith; most = omega arith }, refl)
kind_is kinds.Replied = (6, record { least = omega arith; most = omega arith }, refl)
kind_is kinds.Answered = (7, record { least = omega arith; most = omega arith }, refl)
kind_is kinds.Refer = (8, record { least = omega arith; most = omega arith }, refl)
kind_is kinds.Joined = (9, record { least = omega arith; most = omega arith }, refl)

abbrev IsAKind : MessageKind → Type 0
IsAKind kind = Unit {0}

message_kind_read : IsRead message_kind_at (λ kind. in_1 (number_by kind)) IsAKind
unfolding message_kind_at
message_kind_read =
    made_read kind_by (byte_in 1 9) in_1 (IsFrom 1 9) (λ kind. in_1 (number_by kind)) IsAKind (byte_read 1 9) (record { spelt = λ n fit. ap in_1 (sym (number_by-kind_by n fit)); fit = λ n fit. tt; of = λ kind _. kind_is kind })

-- ---- messages

abbrev IsMessageOf : MessageKind → Message → Type 0
IsMessageOf kind message = (message_number message ≡ number_by kind) × IsMessage message

request_of : (m : Message) → IsMessageOf kinds.Request m → (p : ℕ × Command) × (IsNumber p.0 × IsCommand p.1) × (Request p.0 p.1 ≡ m)
request_of (Request seq command) fit = ((seq, command), (fit.1.seq_fits, fit.1.command_fits), refl)
request_of m fit = absurd (omega (arith, fit.0))

append_of : (m : Message) → IsMessageOf kinds.Append m → (p : ℕ × List Entry) × (IsNumber p.0 × AreItems 1 16 IsEntry p.1) × (Append p.0 p.1 ≡ m)
append_of (Append first entries) fit = ((first, entries), (fit.1.first_fits, fit.1.entries_fit), refl)
append_of m fit = absurd (omega (arith, fit.0))

ack_of : (m : Message) → IsMessageOf kinds.Ack m → (p : ℕ × ℕ) × ((p.0 < 2 ^ 64) × (p.1 < 2 ^ 64)) × (Ack p.0 p.1 ≡ m)
ack_of (Ack done len) fit = ((done, len), (fit.1.done_fits, fit.1.len_fits), refl)
ack_of m fit = absurd (omega (arith, fit.0))

new_view_of : (m : Message) → IsMessageOf kinds.NewView m → (view : View) × IsView view × (NewView view ≡ m)
new_view_of (NewView view) fit = (view, fit.1, refl)
new_view_of m fit = absurd (omega (arith, fit.0))

ask_of : (m : Message) → IsMessageOf kinds.Ask m → (p : (ℕ × ℕ) × List (EventId × EventId)) × ((IsNumber p.0.0 × IsFrom 1 2 p.0.1) × AreItems 1 32 IsAskedPair p.1) × (Ask p.0.0 p.0.1 p.1 ≡ m)
ask_of (Ask q part pairs) fit = (((q, part), pairs), ((fit.1.query.q_fits, fit.1.query.part_fits), fit.1.pairs_fit), refl)
ask_of m fit = absurd (omega (arith, fit.0))

replied_of : (m : Message) → IsMessageOf kinds.Replied m → (p : (ℕ × ℕ) × Reply) × ((IsNumber p.0.0 × IsNumber p.0.1) × IsReply p.1) × (Replied p.0.0 (record { place = p.0.1; reply = p.1 }) ≡ m)
replied_of (Replied seq placed) fit = (((seq, placed.place), placed.reply), ((fit.1.seq_fits, fit.1.placed_fits.place), fit.1.placed_fits.reply), refl)
replied_of m fit = absurd (omega (arith, fit.0))

answered_of : (m : Message) → IsMessageOf kinds.Answered m → (p : ((ℕ × ℕ) × ℕ) × List Answer) × (((IsNumber p.0.0.0 × IsFrom 1 2 p.0.0.1) × (p.0.1 < 2 ^ 64)) × AreItems 1 32 IsAnswer p.1) × (Answered p.0.0.0 p.0.0.1 (record { entry = p.0.1; answers = p.1 }) ≡ m)
answered_of (Answered q part told) fit = ((((q, part), told.entry), told.answers), (((fit.1.query.q_fits, fit.1.query.part_fits), fit.1.told_fits.entry), fit.1.told_fits.answers), refl)
answered_of m fit = absurd (omega (arith, fit.0))

refer_of : (m : Message) → IsMessageOf kinds.Refer m → (p : (ℕ × ℕ) × View) × ((IsNumber p.0.0 × IsFrom 1 2 p.0.1) × IsView p.1) × (Refer p.0.0 p.0.1 p.1 ≡ m)
refer_of (Refer q part view) fit = (((q, part), view), ((fit.1.query.q_fits, fit.1.query.part_fits), fit.1.view_fits), refl)
refer_of m fit = absurd (omega (arith, fit.0))

joined_of : (m : Message) → IsMessageOf kinds.Joined m → (n : ℕ) × IsId n × (Joined (server_of n) ≡ m)
joined_of (Joined joiner) fit = (joiner.0, fit.1, refl)
joined_of m fit = absurd (omega (arith, fit.0))

part_read : IsRead part_at (λ p. in_8 p.0 ++ in_1 p.1) (λ p. IsNumber p.0 × IsFrom 1 2 p.1)
unfolding part_at
part_read = both_read (above w64 0) (byte_in 1 2) in_8 in_1 IsNumber (IsFrom 1 2) positive_read (byte_read 1 2)

message_read : (kind : MessageKind) → IsRead (message_at kind) message_fields (IsMessageOf kind)
unfolding message_at
message_read kinds.Request =
    made_read (λ p. Request p.0 p.1) (both (above w64 0) command_at) (λ p. in_8 p.0 ++ command_bytes p.1) (λ p. IsNumber p.0 × IsCommand p.1) message_fields (IsMessageOf kinds.Request)
    (both_read (above w64 0) command_at in_8 command_bytes IsNumber IsCommand positive_read command_read)
    (record { spelt = λ p fit. refl; fit = λ p fit. (refl, record { seq_fits = fit.0; command_fits = fit.1 }); of = request_of })
message_read kinds.Append =
    made_read (λ p. Append p.0 p.1) (both (above w64 0) (counted_at 1 16 entry_at)) (λ p. in_8 p.0 ++ counted entry_bytes p.1) (λ p. IsNumber p.0 × AreItems 1 16 IsEntry p.1) message_fields (IsMessageOf kinds.Append)
    (both_read (above w64 0) (counted_at 1 16 entry_at) in_8 (counted entry_bytes) IsNumber (AreItems 1 16 IsEntry) positive_read (counted_read entry_at entry_bytes IsEntry 1 16 entry_read))
    (record { spelt = λ p fit. refl; fit = λ p fit. (refl, record { first_fits = fit.0; entries_fit = fit.1 }); of = append_of })
message_read kinds.Ack =
    made_read (λ p. Ack p.0 p.1) (both (number_at w64) (number_at w64)) (λ p. in_8 p.0 ++ in_8 p.1) (λ p. (p.0 < 2 ^ 64) × (p.1 < 2 ^ 64)) message_fields (IsMessageOf kinds.Ack)
    (both_read (number_at w64) (number_at w64) in_8 in_8 (λ n. n < 2 ^ 64) (λ n. n < 2 ^ 64) number_read_8 number_read_8)
    (record { spelt = λ p fit. refl; fit = λ p fit. (refl, record { done_fits = fit.0; len_fits = fit.1 }); of = ack_of })
message_read kinds.NewView =
    made_read (λ view. NewView view) view_at view_bytes IsView message_fields (IsMessageOf kinds.NewView) view_read (record { spelt = λ view fit. refl; fit = λ view fit. (refl, fit); of = new_view_of })
message_read kinds.Ask =
    made_read (λ p. Ask p.0.0 p.0.1 p.1) (both part_at (counted_at 1 32 asked_at)) (λ p. (in_8 p.0.0 ++ in_1 p.0.1) ++ counted asked_bytes p.1) (λ p. (IsNumber p.0.0 × IsFrom 1 2 p.0.1) × AreItems 1 32 IsAskedPair p.1) message_fields (IsMessageOf kinds.Ask)
    (both_read part_at (counted_at 1 32 asked_at) (λ p. in_8 p.0 ++ in_1 p.1) (counted asked_bytes) (λ p. IsNumber p.0 × IsFrom 1 2 p.1) (AreItems 1 32 IsAskedPair) part_read (counted_read asked_at asked_bytes IsAskedPair 1 32 asked_read))
    (record { spelt = λ p fit. refl; fit = λ p fit. (refl, record { query = record { q_fits = fit.0.0; part_fits = fit.0.1 }; pairs_fit = fit.1 }); of = ask_of })
message_read kinds.Replied =
    made_read (λ p. Replied p.0.0 (record { place = p.0.1; reply = p.1 })) (both (both (above w64 0) (above w64 0)) reply_at) (λ p. (in_8 p.0.0 ++ in_8 p.0.1) ++ reply_bytes p.1) (λ p. (IsNumber p.0.0 × IsNumber p.0.1) × IsReply p.1) message_fields (IsMessageOf kinds.Replied)
    (both_read (both (above w64 0) (above w64 0)) reply_at (λ p. in_8 p.0 ++ in_8 p.1) reply_bytes (λ p. IsNumber p.0 × IsNumber p.1) IsReply (both_read (above w64 0) (above w64 0) in_8 in_8 IsNumber IsNumber positive_read positive_read) reply_read)
    (record { spelt = λ p fit. refl; fit = λ p fit. (refl, record { seq_fits = fit.0.0; placed_fits = record { place = fit.0.1; reply = fit.1 } }); of = replied_of })
message_read kinds.Answered =
    made_read (λ p. Answered p.0.0.0 p.0.0.1 (record { entry = p.0.1; answers = p.1 })) (both (both part_at (number_at w64)) (counted_at 1 32 answer_at)) (λ p. ((in_8 p.0.0.0 ++ in_1 p.0.0.1) ++ in_8 p.0.1) ++ counted answer_bytes p.1) (λ p. ((IsNumber p.0.0.0 × IsFrom 1 2 p.0.0.1) × (p.0.1 < 2 ^ 64)) × AreItems 1 32 IsAnswer p.1) message_fields (IsMessageOf kinds.Answered)
    (both_read (both part_at (number_at w64)) (counted_at 1 32 answer_at) (λ p. (in_8 p.0.0 ++ in_1 p.0.1) ++ in_8 p.1) (counted answer_bytes) (λ p. (IsNumber p.0.0 × IsFrom 1 2 p.0.1) × (p.1 < 2 ^ 64)) (AreItems 1 32 IsAnswer) (both_read part_at (number_at w64) (λ p. in_8 p.0 ++ in_1 p.1) in_8 (λ p. IsNumber p.0 × IsFrom 1 2 p.1) (λ n. n < 2 ^ 64) part_read number_read_8) (counted_read answer_at answer_bytes IsAnswer 1 32 answer_read))
    (record { spelt = λ p fit. refl; fit = λ p fit. (refl, record { query = record { q_fits = fit.0.0.0; part_fits = fit.0.0.1 }; told_fits = record { entry = fit.0.1; answers = fit.1 } }); of = answered_of })
message_read kinds.Refer =
    made_read (λ p. Refer p.0.0 p.0.1 p.1) (both part_at view_at) (λ p. (in_8 p.0.0 ++ in_1 p.0.1) ++ view_bytes p.1) (λ p. (IsNumber p.0.0 × IsFrom 1 2 p.0.1) × IsView p.1) message_fields (IsMessageOf kinds.Refer)
    (both_read part_at view_at (λ p. in_8 p.0 ++ in_1 p.1) view_bytes (λ p. IsNumber p.0 × IsFrom 1 2 p.1) IsView part_read view_read)
    (record { spelt = λ p fit. refl; fit = λ p fit. (refl, record { query = record { q_fits = fit.0.0; part_fits = fit.0.1 }; view_fits = fit.1 }); of = refer_of })
message_read kinds.Joined =
    made_read (λ n. Joined (server_of n)) (above w32 0) in_4 IsId message_fields (IsMessageOf kinds.Joined) (id_read 0) (record { spelt = λ n fit. refl; fit = λ n fit. (refl, fit); of = joined_of })

-- ---- packets

-- sender, addressee and message of a kind
abbrev body_bytes : (Node × Node) × Message → List ℕ
body_bytes p = (node_bytes p.0.0 ++ node_bytes p.0.1) ++ message_fields p.1

abbrev IsBodyOf : MessageKind → (Node × Node) × Message → Type 0
IsBodyOf kind p = (IsOf (sender_by kind) p.0.0 × IsOf (addressee_by kind) p.0.1) × IsMessageOf kind p.1

packet_by_read : (kind : MessageKind) → IsRead (packet_by kind) body_bytes (IsBodyOf kind)
unfolding packet_by
packet_by_read kind =
    both_read (both (node_at (sender_by kind)) (node_at (addressee_by kind))) (message_at kind) (λ p. node_bytes p.0 ++ node_bytes p.1) message_fields (λ p. IsOf (sender_by kind) p.0 × IsOf (addressee_by kind) p.1) (IsMessageOf kind)
    (both_read (node_at (sender_by kind)) (node_at (addressee_by kind)) node_bytes node_bytes (IsOf (sender_by kind)) (IsOf (addressee_by kind)) (node_read (sender_by kind)) (node_read (addressee_by kind))) (message_read kind)

regroup : (w x y z : List ℕ) → w ++ ((x ++ y) ++ z) ≡ ((w ++ x) ++ y) ++ z
regroup w x y z = simp append_assoc

kind_by-number_by : (kind : MessageKind) → kind_by (number_by kind) ≡ kind
kind_by-number_by kinds.Request = refl
kind_by-number_by kinds.Append = refl
kind_by-number_by kinds.Ack = refl
kind_by-number_by kinds.NewView = refl
kind_by-number_by kinds.Ask = refl
kind_by-number_by kinds.Replied = refl
kind_by-number_by kinds.Answered = refl
kind_by-number_by kinds.Refer = refl
kind_by-number_by kinds.Joined = refl

-- what the kind of a message says of it
record IsKindOf (kind : MessageKind) (message : Message) : Type 0 where
  numbered : number_by kind ≡ message_number message
  sender : sender_by kind ≡ sender_of message
  addressee : addressee_by kind ≡ addressee_of message

kind_of_message : (m : Message) → IsKindOf (kind_by (message_number m)) m
kind_of_message (Request seq command) = record { numbered = refl; sender = refl; addressee = refl }
kind_of_message (Append first entries) = record { numbered = refl; sender = refl; addressee = refl }
kind_of_message (Ack done len) = record { numbered = refl; sender = refl; addressee = refl }
kind_of_message (NewView view) = record { numbered = refl; sender = refl; addressee = refl }
kind_of_message (Ask q part pairs) = record { numbered = refl; sender = refl; addressee = refl }
kind_of_message (Replied seq placed) = record { numbered = refl; sender = refl; addressee = refl }
kind_of_message (Answered q part told) = record { numbered = refl; sender = refl; addressee = refl }
kind_of_message (Refer q part view) = record { numbered = refl; sender = refl; addressee = refl }
kind_of_message (Joined joiner) = record { numbered = refl; sender = refl; addressee = refl }

numbered_so : (kind : MessageKind) (m : Message) → message_number m ≡ number_by kind → IsKindOf kind m
numbered_so kind m same = subst (λ k. IsKindOf k m) (ap kind_by same ∙ kind_by-number_by kind) (kind_of_message m)

-- what is read of a packet, and its bytes
abbrev front_bytes : (ℕ × MessageKind) × ((Node × Node) × Message) → List ℕ
front_bytes p = (in_1 p.0.0 ++ in_1 (number_by p.0.1)) ++ body_bytes p.1

abbrev IsFront : (ℕ × MessageKind) × ((Node × Node) × Message) → Type 0
IsFront p = (IsFrom 1 1 p.0.0 × IsAKind p.0.1) × IsBodyOf p.0.1 p.1

front_is_spelt : (p : (ℕ × MessageKind) × ((Node × Node) × Message)) → IsFront p → front_bytes p ≡ spelling (packet_of p)
front_is_spelt p fit =
    let version : p.0.0 ≡ 1 = omega (arith, fit.0.0.least, fit.0.0.most) in
    let m = p.1.1 in
    ap (λ v. (in_1 v ++ in_1 (number_by p.0.1)) ++ body_bytes p.1) version ∙ ap (λ k. (in_1 1 ++ in_1 k) ++ body_bytes p.1) (sym fit.1.1.0) ∙ regroup (in_1 1 ++ in_1 (message_number m)) (node_bytes p.1.0.0) (node_bytes p.1.0.1) (message_fields m)

front_fits : (p : (ℕ × MessageKind) × ((Node × Node) × Message)) → IsFront p → IsPacket (packet_of p)
front_fits p fit =
    let kind = numbered_so p.0.1 p.1.1 fit.1.1.0 in
    record {
      from = subst (λ of. IsOf of p.1.0.0) kind.sender fit.1.0.0;
      to = subst (λ of. IsOf of p.1.0.1) kind.addressee fit.1.0.1;
      message = fit.1.1.1;
    }

front_of : (packet : Packet) → IsPacket packet → (p : (ℕ × MessageKind) × ((Node × Node) × Message)) × IsFront p × (packet_of p ≡ packet)
front_of packet fit =
    let kind = kind_of_message packet.message in (
      ((1, kind_by (message_number packet.message)), ((packet.from, packet.to), packet.message)),
      ((record { least = omega arith; most = omega arith }, tt), ((subst (λ of. IsOf of packet.from) (sym kind.sender) fit.from, subst (λ of. IsOf of packet.to) (sym kind.addressee) fit.to), (sym kind.numbered, fit.message))),
      refl,
    )

pub packet_read : IsRead packet_at spelling IsPacket
unfolding packet_at
packet_read =
    made_read packet_of (followed (both (byte_in 1 1) message_kind_at) (λ p. packet_by p.1)) front_bytes IsFront spelling IsPacket
    (followed_read (both (byte_in 1 1) message_kind_at) (λ p. packet_by p.1) (λ p. in_1 p.0 ++ in_1 (number_by p.1)) (λ _. body_bytes) (λ p. IsFrom 1 1 p.0 × IsAKind p.1) (λ p. IsBodyOf p.1) (both_read (byte_in 1 1) message_kind_at in_1 (λ kind. in_1 (number_by kind)) (IsFrom 1 1) IsAKind (byte_read 1 1) message_kind_read) (λ p _. packet_by_read p.1))
    (record { spelt = front_is_spelt; fit = front_fits; of = front_of })
