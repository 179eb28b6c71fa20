-- Which values the fields of a packet may hold.
use Rattle.std.specs.Prelude.{ℕ, ◌^◌, ◌<◌, ◌≤◌, List, [], ◌∷◌, length, All, Option, None, Some}
use Rattle.kr_order.specs.declared.ids.EventId.{EventId}
use Rattle.kr_order.specs.declared.ids.ServerId.{ServerId}
use Rattle.kr_order.specs.declared.batch.Pair.{Pair}
use Rattle.kr_order.specs.declared.batch.Outcome.{Outcome}
use Rattle.kr_order.specs.declared.answer.Answer.{Answer}
use Rattle.kr_order.specs.declared.answer.Told.{Told}
use Rattle.kr_order.specs.declared.history.Command.{Command}
use Rattle.kr_order.specs.declared.history.Command.TheVariants.{Create, Assign, Acquire, Release}
use Rattle.kr_order.specs.declared.history.Entry.{Entry}
use Rattle.kr_order.specs.declared.history.Reply.{Reply}
use Rattle.kr_order.specs.declared.history.Reply.TheVariants.{Created, Assigned, Count, Unknown, Contradicts}
use Rattle.kr_order.specs.declared.history.Placed.{Placed}
use Rattle.kr_order.specs.declared.view.View.{View}
use Rattle.kr_order.specs.declared.message.Node.{Node}
use Rattle.kr_order.specs.declared.message.Node.TheVariants.{Manager, Client, Server}
use Rattle.kr_order.specs.declared.message.Message.{Message}
use Rattle.kr_order.specs.declared.message.Message.TheVariants.{Request, Append, Ack, NewView, Replied, Ask, Answered, Refer, Joined}
use Rattle.kr_order.specs.declared.message.Packet.{Packet}
use Rattle.kr_wire.specs.declared.party.Party.{Party}
use Rattle.kr_wire.specs.declared.party.Party.TheVariants as party

-- a number greater than low that a field holds where it is below the limit
pub record IsAbove (low limit n : ℕ) : Type 0 where
  pub above : low < n
  pub fits : n < limit

-- the id of a client or a server: 4 bytes, from 1
abbrev pub IsId : ℕ → Type 0
IsId n = IsAbove 0 (2 ^ 32) n

-- a number of 8 bytes, from 1
abbrev pub IsNumber : ℕ → Type 0
IsNumber n = IsAbove 0 (2 ^ 64) n

-- a byte of this range
pub record IsFrom (low high n : ℕ) : Type 0 where
  pub least : low ≤ n
  pub most : n ≤ high

-- as many items as a count of this range counts, each of which fits
pub record AreItems {item : Type 0} (low high : ℕ) (Fits : item → Type 0) (items : List item) : Type 0 where
  pub count : IsFrom low high (length items)
  pub each : All Fits items

-- a pair of a batch
pub record IsPair (pair : Pair) : Type 0 where
  pub first : IsNumber pair.first.0
  pub second : IsNumber pair.second.0

-- a pair of a query
pub record IsAskedPair (pair : EventId × EventId) : Type 0 where
  pub first : IsNumber pair.0.0
  pub second : IsNumber pair.1.0

-- of an outcome and of an answer each value is allowed
abbrev pub IsOutcome : Outcome → Type 0
IsOutcome outcome = Unit {0}

abbrev pub IsAnswer : Answer → Type 0
IsAnswer answer = Unit {0}

abbrev pub IsCommand : Command → Type 0
IsCommand Create = Unit {0}
IsCommand (Assign batch) = AreItems 0 32 IsPair batch
IsCommand (Acquire event) = IsNumber event.0
IsCommand (Release event) = IsNumber event.0

pub record IsEntry (entry : Entry) : Type 0 where
  pub client : IsId entry.client.0
  pub seq : IsNumber entry.seq
  pub command : IsCommand entry.command

abbrev pub IsReply : Reply → Type 0
IsReply (Created event) = IsNumber event.0
IsReply (Assigned outcomes) = AreItems 0 32 IsOutcome outcomes
IsReply (Count count) = count < 2 ^ 64
IsReply (Unknown index) = index < 2 ^ 32
IsReply (Contradicts index) = index < 2 ^ 32

pub record IsPlaced (placed : Placed) : Type 0 where
  pub place : IsNumber placed.place
  pub reply : IsReply placed.reply

pub record IsTold (told : Told) : Type 0 where
  pub entry : told.entry < 2 ^ 64
  pub answers : AreItems 1 32 IsAnswer told.answers

-- ids that rise, from above this one on
abbrev pub AreRising : ℕ → List ServerId → Type 0
AreRising low [] = Unit {0}
AreRising low (id ∷ ids) = IsAbove low (2 ^ 32) id.0 × AreRising id.0 ids

-- the last of these ids, or this number where there is none
abbrev pub last_id : ℕ → List ServerId → ℕ
last_id low [] = low
last_id low (id ∷ ids) = last_id id.0 ids

-- a server that is added behind a chain whose last id is this one
abbrev pub IsJoiner : ℕ → Option ServerId → Type 0
IsJoiner last None = Unit {0}
IsJoiner last (Some joiner) = IsAbove last (2 ^ 32) joiner.0

pub record IsView (view : View) : Type 0 where
  pub number : IsNumber view.number
  pub count : IsFrom 1 64 (length view.chain)
  pub chain : AreRising 0 view.chain
  pub joiner : IsJoiner (last_id 0 view.chain) view.joiner

-- who sends such a message
abbrev pub sender_of : Message → Party
sender_of (Request seq command) = party.Client
sender_of (Append first entries) = party.Server
sender_of (Ack done len) = party.Server
sender_of (NewView view) = party.Manager
sender_of (Ask q part pairs) = party.Client
sender_of (Replied seq placed) = party.Server
sender_of (Answered q part told) = party.Server
sender_of (Refer q part view) = party.Server
sender_of (Joined joiner) = party.Server

-- who gets it
abbrev pub addressee_of : Message → Party
addressee_of (Request seq command) = party.Server
addressee_of (Append first entries) = party.Server
addressee_of (Ack done len) = party.Server
addressee_of (NewView view) = party.Server
addressee_of (Ask q part pairs) = party.Server
addressee_of (Replied seq placed) = party.Client
addressee_of (Answered q part told) = party.Client
addressee_of (Refer q part view) = party.Client
addressee_of (Joined joiner) = party.Manager

-- a party of this kind
abbrev pub IsOf : Party → Node → Type 0
IsOf party.Manager Manager = Unit {0}
IsOf party.Manager (Client client) = ⊥
IsOf party.Manager (Server server) = ⊥
IsOf party.Client Manager = ⊥
IsOf party.Client (Client client) = IsId client.0
IsOf party.Client (Server server) = ⊥
IsOf party.Server Manager = ⊥
IsOf party.Server (Client client) = ⊥
IsOf party.Server (Server server) = IsId server.0

pub record IsRequest (seq : ℕ) (command : Command) : Type 0 where
  pub seq_fits : IsNumber seq
  pub command_fits : IsCommand command

pub record IsAppend (first : ℕ) (entries : List Entry) : Type 0 where
  pub first_fits : IsNumber first
  pub entries_fit : AreItems 1 16 IsEntry entries

pub record IsAck (done len : ℕ) : Type 0 where
  pub done_fits : done < 2 ^ 64
  pub len_fits : len < 2 ^ 64

pub record IsReplied (seq : ℕ) (placed : Placed) : Type 0 where
  pub seq_fits : IsNumber seq
  pub placed_fits : IsPlaced placed

-- which query it is, and which part of it
pub record IsPart (q part : ℕ) : Type 0 where
  pub q_fits : IsNumber q
  pub part_fits : IsFrom 1 2 part

pub record IsAsk (q part : ℕ) (pairs : List (EventId × EventId)) : Type 0 where
  pub query : IsPart q part
  pub pairs_fit : AreItems 1 32 IsAskedPair pairs

pub record IsAnswered (q part : ℕ) (told : Told) : Type 0 where
  pub query : IsPart q part
  pub told_fits : IsTold told

pub record IsRefer (q part : ℕ) (view : View) : Type 0 where
  pub query : IsPart q part
  pub view_fits : IsView view

abbrev pub IsMessage : Message → Type 0
IsMessage (Request seq command) = IsRequest seq command
IsMessage (Append first entries) = IsAppend first entries
IsMessage (Ack done len) = IsAck done len
IsMessage (NewView view) = IsView view
IsMessage (Ask q part pairs) = IsAsk q part pairs
IsMessage (Replied seq placed) = IsReplied seq placed
IsMessage (Answered q part told) = IsAnswered q part told
IsMessage (Refer q part view) = IsRefer q part view
IsMessage (Joined joiner) = IsId joiner.0

-- a packet that has a spelling
pub record IsPacket (packet : Packet) : Type 0 where
  pub from : IsOf (sender_of packet.message) packet.from
  pub to : IsOf (addressee_of packet.message) packet.to
  pub message : IsMessage packet.message
