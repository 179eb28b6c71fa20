-- The laws of a run, stated over its events, what was told, and the histories after its steps.
use Rattle.std.specs.Prelude.{length, ◌≡◌, ℕ, ◌+◌, ◌-◌, ◌<◌, ◌≤◌, List, [], ◌∷◌, ◌++◌, ◌==◌, filter}
use Rattle.std.specs.Prelude.{take, if◌then◌else◌, slice_get, All, AllPairs, Option, None, Some}
use Rattle.kr_order.specs.declared.ids.ClientId.{ClientId}
use Rattle.kr_order.specs.declared.history.Command.{Command}
use Rattle.kr_order.specs.declared.history.Entry.{Entry}
use Rattle.kr_order.specs.Reply.{reply_to}
use Rattle.script_lang.specs.declared.script.Event.{Event}
use Rattle.script_lang.specs.declared.script.Event.TheVariants.{Call}
use Rattle.kr_world.specs.declared.refusal.Refusal.{Refusal}
use Rattle.kr_order.specs.declared.ids.EventId.{EventId}
use Rattle.kr_order.specs.declared.answer.Answer.{Answer}
use Rattle.kr_order.specs.declared.answer.Answer.TheVariants as answers
use Rattle.kr_order.specs.declared.answer.ToldPart.{ToldPart}
use Rattle.kr_order.specs.Prefix.{IsPrefix}
use Rattle.kr_order.specs.Order.{IsAcyclic}
use Rattle.kr_order.specs.Pairs.{pairs_of, IsBefore}
use Rattle.kr_order.specs.References.{IsLive}
use Rattle.kr_order.specs.Answer.{answer_to}
use Rattle.kr_protocol.specs.Client.{Client}
use Rattle.kr_world.specs.World.{client_at}
use Rattle.kr_world.specs.Step.{Told, Part}
use Rattle.script_lang.specs.declared.script.Script.{Script}
use Rattle.script_lang.specs.Script.{IsScript}
use Rattle.kr_world.specs.Run.{Turn, run_of}
use Rattle.kr_world.specs.Seen.{Telling, a_reply, a_part, listener, named, tellings_of, heard_of, greatest}

-- the history after a step
abbrev pub history_after : Turn → List Entry
history_after turn = turn.outcome.after.history

-- the command that the client begins by this event, if it does
abbrev pub begins_by : ClientId → Event → Option Refusal → List Command
begins_by client (Call caller command) None = if caller.0 == client.0 then command ∷ [] else []
begins_by client event refused = []

-- the commands that the client began in these steps, in order
abbrev pub begun_by : ClientId → List Turn → List Command
begun_by client [] = []
begun_by client (turn ∷ turns) = begins_by client turn.event turn.outcome.refused ++ begun_by client turns

-- the client's entries in the history, in the order of places
abbrev pub entries_of : ClientId → List Entry → List Entry
entries_of client history = filter (λ entry. entry.client.0 == client.0) history

-- the client's k-th entry has the number k and the k-th command that it began
abbrev pub IsNumbered : List Command → List Entry → Type 0
IsNumbered begun entries =
    (k : ℕ) (entry : Entry) → slice_get entries k ≡ Some entry → (entry.seq ≡ k + 1) × (slice_get begun k ≡ Some entry.command)

-- One place: histories only grow, and each client's entries are the commands that it began, each once, in order.
pub record HasOnePlace (run : List Turn) : Type 0 where
  pub grows :
      (i j : ℕ) (earlier later : Turn) → i ≤ j → slice_get run i ≡ Some earlier → slice_get run j ≡ Some later
      → IsPrefix (history_after earlier) (history_after later)
  pub numbered :
      (i : ℕ) (turn : Turn) → slice_get run i ≡ Some turn → (client : ClientId)
      → IsNumbered (begun_by client (take (i + 1) run)) (entries_of client (history_after turn))

-- the greatest place or entry that a client has seen
abbrev pub seen_of : Option Client → ℕ
seen_of None = 0
seen_of (Some client) = client.seen

-- what the client had seen before the step
abbrev pub seen_by : Turn → ClientId → ℕ
seen_by turn client = seen_of (client_at turn.before client)

-- a reply that was told is its command's, at its place in the history, which is past all that its client had seen
pub record IsToldTruly (history : List Entry) (seen : ℕ) (told : Told) : Type 0 where
  pub entry : Entry
  pub past_seen : seen < told.reply.placed.place
  pub stands : slice_get history (told.reply.placed.place - 1) ≡ Some entry
  pub client : entry.client ≡ told.client
  pub seq : entry.seq ≡ told.reply.seq
  pub reply : told.reply.placed.reply ≡ reply_to (take (told.reply.placed.place - 1) history) entry.command

-- Told reply: what a step tells a client is true, and newer than all that it had seen.
abbrev pub HasTrueReplies : List Turn → Type 0
HasTrueReplies run =
    (i : ℕ) (turn : Turn) → slice_get run i ≡ Some turn
    → All (λ told. IsToldTruly (history_after turn) (seen_by turn told.client) told) turn.outcome.told

-- Acyclic: after every entry of every history no event is before itself.
abbrev pub StaysAcyclic : List Turn → Type 0
StaysAcyclic run =
    (i : ℕ) (turn : Turn) → slice_get run i ≡ Some turn → (n : ℕ) → IsAcyclic (pairs_of (take n (history_after turn)))

-- from this entry on a is before b, in this history and in every later one of the run
abbrev pub StaysBefore : List Turn → ℕ → ℕ → EventId → EventId → Type 0
StaysBefore run i n a b =
    (j : ℕ) (later : Turn) → i ≤ j → slice_get run j ≡ Some later → (m : ℕ) → n ≤ m → m ≤ length (history_after later)
    → IsBefore (take m (history_after later)) a.0 b.0

-- Before holds: a told Before, and a told After the other way round, holds from its entry on and is never contradicted.
abbrev pub KeepsBefore : List Turn → ℕ → ToldPart → Answer → Type 0
KeepsBefore run i part answers.Before = StaysBefore run i part.entry part.a part.b
KeepsBefore run i part answers.After = StaysBefore run i part.entry part.b part.a
KeepsBefore run i part answers.Same = Unit {0}
KeepsBefore run i part answers.Concurrent = Unit {0}
KeepsBefore run i part answers.Unknown = Unit {0}
KeepsBefore run i part answers.Unsure = Unit {0}

-- Current: a told Concurrent or Unknown is of an entry no earlier than all that its client had seen.
abbrev pub IsCurrent : ℕ → ToldPart → Answer → Type 0
IsCurrent seen part answers.Before = Unit {0}
IsCurrent seen part answers.After = Unit {0}
IsCurrent seen part answers.Same = Unit {0}
IsCurrent seen part answers.Concurrent = seen ≤ part.entry
IsCurrent seen part answers.Unknown = seen ≤ part.entry
IsCurrent seen part answers.Unsure = ⊥

-- Same is live: a told Same is of one event, which is live after its entry.
abbrev pub IsSameLive : List Entry → ToldPart → Answer → Type 0
IsSameLive history part answers.Before = Unit {0}
IsSameLive history part answers.After = Unit {0}
IsSameLive history part answers.Same = (part.a ≡ part.b) × IsLive (take part.entry history) part.a.0
IsSameLive history part answers.Concurrent = Unit {0}
IsSameLive history part answers.Unknown = Unit {0}
IsSameLive history part answers.Unsure = Unit {0}

-- what a step tells a client of a pair is true after the entry that it names
pub record IsPartTrue (run : List Turn) (i : ℕ) (turn : Turn) (part : Part) : Type 0 where
  pub within : part.part.entry ≤ length (history_after turn)
  pub answer : part.part.answer ≡ answer_to (take part.part.entry (history_after turn)) part.part.a.0 part.part.b.0
  pub before_holds : KeepsBefore run i part.part part.part.answer
  pub current : IsCurrent (seen_by turn part.client) part.part part.part.answer
  pub same_is_live : IsSameLive (history_after turn) part.part part.part.answer

-- every told part is true
abbrev pub HasTrueParts : List Turn → Type 0
HasTrueParts run =
    (i : ℕ) (turn : Turn) → slice_get run i ≡ Some turn → All (IsPartTrue run i turn) turn.outcome.parts

-- what may be told to a client that was told of this place or entry: a reply of a later place, or a part that is current
abbrev pub MayFollow : ℕ → Telling → Type 0
MayFollow n (a_reply told) = n < told.reply.placed.place
MayFollow n (a_part part) = IsCurrent n part.part part.part.answer

-- where both are told to one client, the later may follow the earlier
abbrev pub AreInOrder : Telling → Telling → Type 0
AreInOrder earlier later = listener earlier ≡ listener later → MayFollow (named earlier) later

-- In order: a told reply is of a place past each place and entry that its client was told before, and a told Concurrent
-- or Unknown of an entry no earlier than these.
abbrev pub IsToldInOrder : List Turn → Type 0
IsToldInOrder run = AllPairs AreInOrder (tellings_of run)

-- Seen: what a client has seen, before a step and after it, is the greatest of all that it has heard of until then.
pub record SeesWhatItHears (run : List Turn) : Type 0 where
  pub before :
      (i : ℕ) (turn : Turn)
      → slice_get run i ≡ Some turn
      → (client : ClientId)
      → 1 ≤ client.0
      → seen_by turn client ≡ greatest (heard_of client (take i run))
  pub after :
      (i : ℕ) (turn : Turn)
      → slice_get run i ≡ Some turn
      → (client : ClientId)
      → 1 ≤ client.0
      → seen_of (client_at turn.outcome.after client) ≡ greatest (heard_of client (take (i + 1) run))

-- the laws of a run
pub record IsLawful (run : List Turn) : Type 0 where
  pub one_place : HasOnePlace run
  pub told_reply : HasTrueReplies run
  pub acyclic : StaysAcyclic run
  pub parts : HasTrueParts run
  pub in_order : IsToldInOrder run
  pub seen : SeesWhatItHears run

-- every run of a script is lawful
abbrev pub RunsAreLawful : Type 0
RunsAreLawful = (script : Script) → IsScript script → IsLawful (run_of script)
