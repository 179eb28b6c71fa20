-- The grammar of live input: how many clients there are and what each of them calls, how this is spelt, and which line of
-- other bytes is bad.
use Rattle.std.specs.Prelude.{◌⊎◌, ◌≡◌, ◌≢◌, ℕ, ◌+◌, ◌≤◌, List, [], ◌∷◌, ◌++◌, length, All, codes, Result, Ok, Err}
use Rattle.std.specs.Fmt.{decimal}
use Rattle.kr_order.specs.declared.ids.ClientId.{ClientId}
use Rattle.kr_order.specs.declared.ids.EventId.{EventId}
use Rattle.kr_order.specs.Text.{command_word, command_words}
use Rattle.script_lang.specs.declared.live.LiveCall.{LiveCall}
use Rattle.script_lang.specs.declared.live.LiveCall.TheVariants.{Command, Query}
use Rattle.script_lang.specs.declared.live.LivePlan.{LivePlan}
use Rattle.script_lang.specs.declared.read.ScriptStop.{ScriptStop}
use Rattle.script_lang.specs.declared.read.ScriptStop.TheVariants.{BadLine, NoMemory}
use Rattle.script_lang.specs.Line.{line}
use Rattle.script_lang.specs.Number.{IsFromOneTo}
use Rattle.script_lang.specs.Event.{IsCommand, ArePairs, IsAskedPair, asked_words}

-- the pairs of a query that some line asks
pub record AreAsked (pairs : List (EventId × EventId)) : Type 0 where
  pub some : 1 ≤ length pairs
  pub pairs_fit : ArePairs IsAskedPair pairs

-- what a client may call by some line
abbrev pub IsLiveCall : LiveCall → Type 0
IsLiveCall (Command command) = IsCommand command
IsLiveCall (Query pairs) = AreAsked pairs

-- a call of one of so many clients
pub record IsCalled (clients : ℕ) (call : ClientId × LiveCall) : Type 0 where
  pub client_fits : IsFromOneTo clients call.0.0
  pub call_fits : IsLiveCall call.1

-- how many clients there may be
abbrev pub AreClients : ℕ → Type 0
AreClients clients = IsFromOneTo 16 clients

-- a plan that some bytes spell
pub record IsPlan (plan : LivePlan) : Type 0 where
  pub clients_fit : AreClients plan.clients
  pub each : All (IsCalled plan.clients) plan.calls

-- the first word of its line
abbrev pub live_word : LiveCall → List ℕ
live_word (Command command) = command_word command
live_word (Query pairs) = codes "query"

-- the words that follow its client, each with a space before it
abbrev pub live_words : LiveCall → List ℕ
live_words (Command command) = command_words command
live_words (Query pairs) = asked_words pairs

-- the words that follow the first, of which the client is one
abbrev pub call_words : ClientId × LiveCall → List ℕ
call_words call = codes " " ++ decimal call.0.0 ++ live_words call.1

-- a call's line, without the end
abbrev pub live_text : ClientId × LiveCall → List ℕ
live_text call = live_word call.1 ++ call_words call

-- the first line
abbrev pub live_line : ℕ → List ℕ
live_line clients = line (codes "live " ++ decimal clients)

abbrev pub call_lines : List (ClientId × LiveCall) → List ℕ
call_lines [] = []
call_lines (call ∷ calls) = line (live_text call) ++ call_lines calls

abbrev pub plan_bytes : LivePlan → List ℕ
plan_bytes plan = live_line plan.clients ++ call_lines plan.calls

-- the bytes are the one spelling of the plan
pub record ParsesLive (bytes : List ℕ) (plan : LivePlan) : Type 0 where
  pub fit : IsPlan plan
  pub spelt : bytes ≡ plan_bytes plan

-- the bytes go on with the line of a call of one of so many clients
abbrev pub BeginsWithCall : ℕ → List ℕ → Type 0
BeginsWithCall clients bytes =
    (call : ClientId × LiveCall) × (rest : List ℕ) × IsCalled clients call × (bytes ≡ line (live_text call) ++ rest)

-- the bytes begin with the first line of a plan
abbrev pub BeginsWithClients : List ℕ → Type 0
BeginsWithClients bytes = (clients : ℕ) × (rest : List ℕ) × AreClients clients × (bytes ≡ live_line clients ++ rest)

-- the bytes are good lines, and then something that begins with no line of a call; the bad line is the n-th
pub record StopsLiveAt (bytes : List ℕ) (n : ℕ) : Type 0 where
  pub clients : ℕ
  pub calls : List (ClientId × LiveCall)
  pub rest : List ℕ
  pub clients_fit : AreClients clients
  pub each : All (IsCalled clients) calls
  pub front : bytes ≡ live_line clients ++ call_lines calls ++ rest
  pub more : rest ≢ []
  pub bad : BeginsWithCall clients rest → ⊥
  pub number : n ≡ length calls + 2

-- line n of the bytes, counted from 1, is the first that is in no plan
abbrev pub IsBadLiveLine : List ℕ → ℕ → Type 0
IsBadLiveLine bytes n = ((n ≡ 1) × (BeginsWithClients bytes → ⊥)) ⊎ StopsLiveAt bytes n

-- what the reader of live input answers
abbrev pub ReadsLive : List ℕ → Result LivePlan ScriptStop → Type 0
ReadsLive bytes (Ok plan) = ParsesLive bytes plan
ReadsLive bytes (Err (BadLine n)) = IsBadLiveLine bytes n
ReadsLive bytes (Err NoMemory) = Unit {0}

-- the bytes are the first line of a plan, and then the rest
pub record ReadsClients (bytes : List ℕ) (clients : ℕ) (rest : List ℕ) : Type 0 where
  pub clients_fit : AreClients clients
  pub whole : bytes ≡ live_line clients ++ rest

-- the bytes are the line of a call of one of so many clients, and then the rest
pub record ReadsCall (clients : ℕ) (bytes : List ℕ) (call : ClientId × LiveCall) (rest : List ℕ) : Type 0 where
  pub fit : IsCalled clients call
  pub whole : bytes ≡ line (live_text call) ++ rest

-- a call whose line has this first word
pub record IsCallOf (word : List ℕ) (call : LiveCall) : Type 0 where
  pub fit : IsLiveCall call
  pub named : live_word call ≡ word
