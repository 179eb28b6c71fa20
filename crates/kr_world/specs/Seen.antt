-- What clients are told, in order, and what a client has seen by that.
use Rattle.std.specs.Prelude.{ℕ, max, Bool, true, ◌&&◌, List, [], ◌∷◌, ◌++◌, ◌==◌, map, filter}
use Rattle.std.specs.Prelude.{if◌then◌else◌, Option, None, Some}
use Rattle.kr_order.specs.declared.ids.ClientId.{ClientId}
use Rattle.kr_order.specs.declared.ids.EventId.{EventId}
use Rattle.kr_order.specs.declared.answer.Answer.{Answer}
use Rattle.kr_order.specs.declared.answer.Told.{Told as Answers}
use Rattle.kr_order.specs.declared.message.Node as nodes
use Rattle.kr_order.specs.declared.message.Node.TheVariants.{Manager, Client as AtClient, Server}
use Rattle.kr_order.specs.declared.message.Message.{Message}
use Rattle.kr_order.specs.declared.message.Message.TheVariants.{Answered}
use Rattle.kr_order.specs.declared.message.Packet.{Packet}
use Rattle.kr_protocol.specs.Client.{Client, is_unsure, may_answer_all}
use Rattle.script_lang.specs.declared.script.Event.{Event}
use Rattle.script_lang.specs.declared.script.Event.TheVariants.{Deliver}
use Rattle.kr_world.specs.declared.refusal.Refusal.{Refusal}
use Rattle.kr_world.specs.World.{World, client_at, packet_at}
use Rattle.kr_world.specs.Step.{Told, Part, Outcome}
use Rattle.kr_world.specs.Run.{Turn}

-- what a client is told in one line: a reply to its command, or a part of its query
pub data Telling : Type 0 where
  a_reply : Told → Telling
  a_part : Part → Telling

-- the client that is told
abbrev pub listener : Telling → ClientId
listener (a_reply told) = told.client
listener (a_part part) = part.client

-- the place that a reply names, or the entry that a part names
abbrev pub named : Telling → ℕ
named (a_reply told) = told.reply.placed.place
named (a_part part) = part.part.entry

-- what a step tells, in order
abbrev pub tellings_in : Outcome → List Telling
tellings_in outcome = map a_reply outcome.told ++ map a_part outcome.parts

-- what these steps tell, in order
abbrev pub tellings_of : List Turn → List Telling
tellings_of [] = []
tellings_of (turn ∷ turns) = tellings_in turn.outcome ++ tellings_of turns

-- the places and entries that these name to the client
abbrev pub named_to : ClientId → List Telling → List ℕ
named_to client tellings = map named (filter (λ telling. (listener telling).0 == client.0) tellings)

-- each of these answers is unsure
abbrev pub are_unsure : List Answer → Bool
are_unsure [] = true
are_unsure (answer ∷ answers) = is_unsure answer && are_unsure answers

-- the entry of answers that are all unsure
abbrev pub unsure_entry : Answers → List ℕ
unsure_entry told = if are_unsure told.answers then told.entry ∷ [] else []

-- the entry of answers to the client's open query, where they are unsure of all its pairs
abbrev pub unsure_answers : Client → Option (List (EventId × EventId)) → ℕ → ℕ → Answers → List ℕ
unsure_answers client None q part told = []
unsure_answers client (Some pairs) q part told =
    if q == client.q && (part == client.part && may_answer_all part pairs told.answers) then unsure_entry told else []

abbrev pub unsure_from : Client → nodes.Node → ℕ → ℕ → Answers → List ℕ
unsure_from client Manager q part told = []
unsure_from client (AtClient other) q part told = []
unsure_from client (Server server) q part told = unsure_answers client client.asking q part told

abbrev pub unsure_message : Client → nodes.Node → Message → List ℕ
unsure_message client from (Answered q part told) = unsure_from client from q part told
unsure_message client from other = []

abbrev pub unsure_client : Option Client → Packet → List ℕ
unsure_client None packet = []
unsure_client (Some client) packet = unsure_message client packet.from packet.message

-- where they come to this client
abbrev pub unsure_at : ClientId → World → nodes.Node → Packet → List ℕ
unsure_at client world Manager packet = []
unsure_at client world (AtClient to) packet = if to.0 == client.0 then unsure_client (client_at world to) packet else []
unsure_at client world (Server server) packet = []

abbrev pub unsure_packet : ClientId → World → Option Packet → List ℕ
unsure_packet client world None = []
unsure_packet client world (Some packet) = unsure_at client world packet.to packet

abbrev pub unsure_by : ClientId → World → Event → Option Refusal → List ℕ
unsure_by client world (Deliver k) None = unsure_packet client world (packet_at world k)
unsure_by client world event refused = []

-- what the client hears of in a step: the places and entries that it is told, and the entry of an answer that tells it
-- nothing, as that is unsure of all its pairs
abbrev pub heard_in : ClientId → Turn → List ℕ
heard_in client turn =
    named_to client (tellings_in turn.outcome) ++ unsure_by client turn.before turn.event turn.outcome.refused

-- what it hears of in these steps
abbrev pub heard_of : ClientId → List Turn → List ℕ
heard_of client [] = []
heard_of client (turn ∷ turns) = heard_in client turn ++ heard_of client turns

-- the greatest of these, 0 where there is none
abbrev pub greatest : List ℕ → ℕ
greatest [] = 0
greatest (n ∷ ns) = max n (greatest ns)
