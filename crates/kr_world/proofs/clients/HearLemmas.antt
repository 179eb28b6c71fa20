-- What a client does with a packet keeps the facts, and what it is told is true and new.
use Rattle.std.proofs.Common.{◌≡◌, ℕ, ◌-◌, Bool, true, false, cond, ◌&&◌, eqb, ltb, List, [], ◌∷◌, ◌++◌, length, refl, sym, ap, ◌∙◌, subst, arith}
use Rattle.std.specs.Prelude.{Option, None, Some}
use Rattle.std.proofs.lemmas.Bool.{eqb-true, and_parts}
use Rattle.std.proofs.lemmas.List.Elements.{All-nil}
use Rattle.kr_order.specs.declared.ids.ClientId.{ClientId}
use Rattle.kr_order.specs.declared.ids.EventId.{EventId}
use Rattle.kr_order.specs.declared.answer.Teller.{Teller}
use Rattle.kr_order.specs.declared.answer.Teller.TheVariants as teller
use Rattle.kr_order.specs.declared.answer.Told.{Told}
use Rattle.kr_order.specs.declared.history.Command.{Command}
use Rattle.kr_order.specs.declared.history.Entry.{Entry}
use Rattle.kr_order.specs.declared.history.Placed.{Placed}
use Rattle.kr_order.specs.declared.message.Node as nodes
use Rattle.kr_order.specs.declared.message.Node.TheVariants.{Manager, Client as AtClient, Server as AtServer}
use Rattle.kr_order.specs.declared.message.Message.{Message}
use Rattle.kr_order.specs.declared.message.Message.TheVariants.{Replied, Answered, Refer}
use Rattle.kr_order.specs.declared.message.Packet.{Packet}
use Rattle.kr_order.specs.declared.view.View.{View}
use Rattle.kr_protocol.specs.Client.{Client, last, unheard, closes, after_reply, may_answer_all, answered, after_answers, answers_from, turns_to, after_refer, message_to, learns}
use Rattle.kr_world.specs.World.{World, client_at}
use Rattle.kr_world.specs.Step.{client_hears, arrives_at_client, learns_view}
use Rattle.kr_world.specs.Run.{Turn}
use Rattle.kr_world.specs.Facts.{StandsAt, AreAnswers, IsTrueMessage, IsTrueClient, AreFacts}
use Rattle.kr_world.proofs.packets.PastLemmas.{IsApart, begun_same}
use Rattle.kr_world.proofs.packets.PacketLemmas.{begun_later}
use Rattle.kr_world.proofs.queries.QueryLemmas.{stays, queries_move}
use Rattle.kr_world.proofs.facts.KeepLemmas.{IsNewReply, IsNewPart, GoesOn, quiet_goes_on}
use Rattle.kr_world.proofs.clients.ClientLemmas.{IsPresent, its_facts}
use Rattle.kr_world.proofs.clients.HeardLemmas.{says_again, heard_goes_on, unheard_goes_on, says_nothing}
use Rattle.kr_world.proofs.clients.ClosesLemmas.{closes_goes_on}
use Rattle.kr_world.proofs.clients.AnsweredLemmas.{answered_goes_on, answers_open}

reply_goes_on : (past : List Turn) (world : World) (id : ClientId) (client : Client) (call : Option Command) (seq : ℕ)
    (placed : Placed) → client.call ≡ call → IsPresent past world id client → StandsAt world.history id seq placed
    → GoesOn past world (client_hears world id (after_reply client call seq placed))
reply_goes_on past world id client None seq placed called here stands = unheard_goes_on past world id client here
reply_goes_on past world id client (Some command) seq placed called here stands = by_test (eqb seq client.seq) refl
  where
    by_test : (test : Bool) → eqb seq client.seq ≡ test
        → GoesOn past world (client_hears world id (cond test (closes client placed) (unheard client)))
    by_test true same = closes_goes_on past world id client command placed here called (subst (λ n. StandsAt world.history id n placed) (eqb-true seq client.seq same) stands)
    by_test false same = unheard_goes_on past world id client here

answers_go_on : (past : List Turn) (world : World) (id : ClientId) (client : Client)
    (asking : Option (List (EventId × EventId))) (by : Teller) (q part : ℕ) (told : Told) → client.asking ≡ asking
    → IsPresent past world id client → AreAnswers past world.history id q part told
    → GoesOn past world (client_hears world id (after_answers client asking by q part told))
answers_go_on past world id client None by q part told asked here said = unheard_goes_on past world id client here
answers_go_on past world id client (Some pairs) by q part told asked here said = by_test (eqb q client.q && (eqb part client.part && may_answer_all part pairs told.answers)) refl
  where
    by_test : (test : Bool) → (eqb q client.q && (eqb part client.part && may_answer_all part pairs told.answers)) ≡ test
        → GoesOn past world (client_hears world id (cond test (answered client pairs by told) (unheard client)))
    by_test true holds =
        let numbers = and_parts (eqb q client.q) (eqb part client.part && may_answer_all part pairs told.answers) holds in
        let parts = and_parts (eqb part client.part) (may_answer_all part pairs told.answers) numbers.1 in
        let same_part = eqb-true part client.part parts.0 in
        let may = subst (λ n. may_answer_all n pairs told.answers ≡ true) same_part parts.1 in
        let its = subst (λ n. AreAnswers past world.history id n client.part told) (eqb-true q client.q numbers.0) (subst (λ n. AreAnswers past world.history id q n told) same_part said) in
        answered_goes_on past world id client pairs by told here (answers_open past world id client pairs told here asked may its)
    by_test false holds = unheard_goes_on past world id client here

from_goes_on : (past : List Turn) (world : World) (from : nodes.Node) (id : ClientId) (client : Client) (q part : ℕ)
    (told : Told) → IsPresent past world id client → AreAnswers past world.history id q part told
    → GoesOn past world (client_hears world id (answers_from client from q part told))
from_goes_on past world Manager id client q part told here said = unheard_goes_on past world id client here
from_goes_on past world (AtClient other) id client q part told here said = unheard_goes_on past world id client here
from_goes_on past world (AtServer server) id client q part told here said =
    answers_go_on past world id client client.asking (teller.Server server) q part told refl here said

-- a view is no matter to what a client knows of the history
learnt_true : (past : List Turn) (turn : Turn) (history : List Entry) (i : ℕ) (client : Client) (view : View)
    → IsApart turn client.id → client_at turn.outcome.after client.id ≡ Some (learns client view)
    → IsTrueClient past history i client → IsTrueClient (past ++ turn ∷ []) history i (learns client view)
learnt_true past turn history i client view apart at known =
    record {
      id = known.id;
      seq = known.seq ∙ sym (ap length (begun_same client.id past turn apart));
      command = λ command is. begun_later past (turn ∷ []) client.id client.seq command (known.command command is);
      idle = known.idle;
      within = known.within;
      old = known.old;
      queries = queries_move past turn client (learns client view) refl (omega arith) (stays refl refl refl refl) at known.queries.alone known.queries;
      cache = known.cache;
    }

pub learns_goes_on : (past : List Turn) (world : World) (id : ClientId) (found : Option Client) → client_at world id ≡ found
    → AreFacts past world → GoesOn past world (learns_view world id found)
learns_goes_on past world id None is facts = quiet_goes_on past world world refl facts
learns_goes_on past world id (Some client) is facts =
    let here : IsPresent past world id client = record { at = is; facts = facts } in
    let view = world.manager.current in
    heard_goes_on past world id client (unheard (learns client view)) here (record {
      same = refl;
      known = λ turn apart at. learnt_true past turn world.history (id.0 - 1) client view apart at (its_facts past world id client here);
      says = says_nothing;
      told = All-nil (IsNewReply world world.history);
      parts = All-nil (IsNewPart world world.history);
    })

refer_goes_on : (past : List Turn) (world : World) (id : ClientId) (client : Client)
    (asking : Option (List (EventId × EventId))) (q part : ℕ) (view : View) → IsPresent past world id client
    → GoesOn past world (client_hears world id (after_refer client asking q part view))
refer_goes_on past world id client None q part view here = unheard_goes_on past world id client here
refer_goes_on past world id client (Some pairs) q part view here = by_test (eqb q client.q && (eqb part client.part && ltb client.known.number view.number))
  where
    by_test : (test : Bool) → GoesOn past world (client_hears world id (cond test (turns_to client view) (unheard client)))
    by_test true =
        heard_goes_on past world id client (turns_to client view) here (record {
          same = refl;
          known = λ turn apart at. learnt_true past turn world.history (id.0 - 1) client view apart at (its_facts past world id client here);
          says = says_again (last (turns_to client view).after);
          told = All-nil (IsNewReply world world.history);
          parts = All-nil (IsNewPart world world.history);
        })
    by_test false = unheard_goes_on past world id client here

message_goes_on : (past : List Turn) (world : World) (from : nodes.Node) (id : ClientId) (client : Client)
    (message : Message) → IsPresent past world id client → IsTrueMessage past world.history from (AtClient id) message
    → GoesOn past world (client_hears world id (message_to client from message))
message_goes_on past world from id client (Replied seq placed) here said = reply_goes_on past world id client client.call seq placed refl here said
message_goes_on past world from id client (Answered q part told) here said = from_goes_on past world from id client q part told here said
message_goes_on past world from id client (Refer q part view) here said = refer_goes_on past world id client client.asking q part view here
message_goes_on past world from id client other here said = unheard_goes_on past world id client here

-- the client takes a packet that is for it
pub hears_goes_on : (past : List Turn) (world : World) (id : ClientId) (packet : Packet) (found : Option Client)
    → client_at world id ≡ found → IsTrueMessage past world.history packet.from (AtClient id) packet.message
    → AreFacts past world → GoesOn past world (arrives_at_client world id packet found)
hears_goes_on past world id packet None is said facts = quiet_goes_on past world world refl facts
hears_goes_on past world id packet (Some client) is said facts =
    message_goes_on past world packet.from id client packet.message (record { at = is; facts = facts }) said
