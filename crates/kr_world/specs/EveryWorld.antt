-- What holds in every world of every run.
use Rattle.std.specs.Prelude.{ℕ, ◌≡◌, true, false, take, slice_get, Some}
use Rattle.kr_order.specs.declared.ids.ServerId.{ServerId}
use Rattle.kr_order.specs.Prefix.{IsPrefix}
use Rattle.kr_order.specs.View.{in_chain, last_member}
use Rattle.kr_protocol.specs.Server.{Server, is_at_tail}
use Rattle.script_lang.specs.declared.script.Script.{Script}
use Rattle.script_lang.specs.Script.{IsScript}
use Rattle.kr_world.specs.World.{World, first_world, server_at, is_stopped}
use Rattle.kr_world.specs.Run.{Turn, run_of}
use Rattle.kr_world.specs.Counts.{world_after}
use Rattle.kr_world.specs.Sound.{IsSound}
use Rattle.kr_world.specs.Facts.{AreFacts}

-- the world of the script's run after its first i steps, the last one where it has no more
abbrev pub world_of : Script → ℕ → World
world_of script i = world_after (first_world script.servers script.clients) (take i (run_of script))

-- this holds in every world of every run
abbrev pub InEveryWorld : (World → Type 0) → Type 0
InEveryWorld Holds = (script : Script) → IsScript script → (i : ℕ) → Holds (world_of script i)

-- every world of every run is sound
abbrev pub EveryWorldIsSound : Type 0
EveryWorldIsSound = InEveryWorld IsSound

-- in every world of every run the facts hold, after the steps before it: packets are true, seqs are in order, clients have
-- seen only history and remember what is true, and queries that wait were asked
abbrev pub FactsHold : Type 0
FactsHold = (script : Script) → IsScript script → (i : ℕ) → AreFacts (take i (run_of script)) (world_of script i)

-- the server of this number is there, and the history stands in its log
pub record HoldsHistory (world : World) (id : ServerId) : Type 0 where
  pub server : Server
  pub there : server_at world id ≡ Some server
  pub holds : IsPrefix world.history server.log

-- Members hold the history: it stands in the log of each member of the current view, also of one that has stopped.
abbrev pub MembersHold : World → Type 0
MembersHold world = (member : ServerId) → in_chain world.manager.current member ≡ true → HoldsHistory world member

abbrev pub MembersHoldTheHistory : Type 0
MembersHoldTheHistory = InEveryWorld MembersHold

-- a server that has not stopped, and is the tail by the view that it has adopted
pub record IsRunningTail (world : World) (server : Server) : Type 0 where
  pub place : ℕ
  pub there : slice_get world.servers place ≡ Some server
  pub runs : is_stopped world server.id ≡ false
  pub tail : is_at_tail server ≡ true

-- One tail: a tail that runs is the last member of the current view, and its log is the history; so no two run.
pub record HasOneTail (world : World) : Type 0 where
  pub last : (server : Server) → IsRunningTail world server → last_member world.manager.current ≡ Some server.id
  pub log : (server : Server) → IsRunningTail world server → server.log ≡ world.history
  pub one : (server other : Server) → IsRunningTail world server → IsRunningTail world other → server ≡ other

abbrev pub OneTailRuns : Type 0
OneTailRuns = InEveryWorld HasOneTail

-- Promotion is safe: in whichever step a joiner becomes a member, the history stood in its log before it.
abbrev pub PromotionIsSafe : Type 0
PromotionIsSafe =
    (script : Script) → IsScript script → (i : ℕ) (turn : Turn) → slice_get (run_of script) i ≡ Some turn → (joiner : ServerId)
    → turn.before.manager.current.joiner ≡ Some joiner
    → in_chain turn.outcome.after.manager.current joiner ≡ true
    → HoldsHistory turn.before joiner
