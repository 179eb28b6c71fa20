-- The grammar of the input of a chain: how its commands and queries are spelt, which plan they give, and which line of other
-- bytes is bad.
use Rattle.std.specs.Prelude.{◌⊎◌, ◌≡◌, ◌≢◌, ℕ, ◌+◌, ◌-◌, ◌≤◌, ◌==◌, List, [], ◌∷◌, ◌++◌, length, slice_index_or}
use Rattle.std.specs.Prelude.{count_by, codes, flat_map, Result, Ok, Err}
use Rattle.kr_order.specs.declared.ids.ClientId.{ClientId}
use Rattle.kr_order.specs.declared.history.Command.{Command as Begun}
use Rattle.kr_order.specs.declared.history.Entry.{Entry}
use Rattle.script_lang.specs.declared.chain.ChainLine.{ChainLine}
use Rattle.script_lang.specs.declared.chain.ChainLine.TheVariants.{Command, Query}
use Rattle.script_lang.specs.declared.chain.ChainPlan.{ChainPlan}
use Rattle.script_lang.specs.declared.chain.ChainQuery.{ChainQuery}
use Rattle.script_lang.specs.declared.live.LiveCall.TheVariants.{Command as Calls}
use Rattle.script_lang.specs.declared.read.ScriptStop.{ScriptStop}
use Rattle.script_lang.specs.declared.read.ScriptStop.TheVariants.{BadLine, NoMemory}
use Rattle.script_lang.specs.Line.{line}
use Rattle.script_lang.specs.Number.{IsFromOneTo}
use Rattle.script_lang.specs.Event.{asked_words}
use Rattle.script_lang.specs.Reading.{one_word}
use Rattle.script_lang.specs.Live.{AreAsked, IsCalled, live_text}

-- a query that some line asks below so many commands
pub record IsChainQuery (above : ℕ) (query : ChainQuery) : Type 0 where
  pub node_fits : IsFromOneTo 3 query.node
  pub least_fits : query.least ≤ above
  pub is_number : query.least ≤ 18446744073709551615
  pub asked : AreAsked query.pairs

-- what a line gives below so many commands: a command of one of sixteen clients, or a query
abbrev pub IsChainLine : ℕ → ChainLine → Type 0
IsChainLine above (Command client command) = IsCalled 16 (client, Calls command)
IsChainLine above (Query query) = IsChainQuery above query

-- the words that follow the first word of a query
abbrev pub query_words : ChainQuery → List ℕ
query_words query = one_word query.node ++ (one_word query.least ++ asked_words query.pairs)

-- a line, without its end. A command is spelt as in live input
abbrev pub chain_text : ChainLine → List ℕ
chain_text (Command client command) = live_text (client, Calls command)
chain_text (Query query) = codes "query" ++ query_words query

-- the first line
abbrev pub chain_first : List ℕ
chain_first = line (codes "chain")

abbrev pub chain_lines : List ChainLine → List ℕ
chain_lines lines = flat_map (λ one. line (chain_text one)) lines

-- how many of the entries are the client's
abbrev pub made_by : ℕ → List Entry → ℕ
made_by client entries = count_by (λ entry. entry.client.0 == client) entries

-- the entry of the client's next command behind these entries
abbrev pub next_entry : List Entry → ClientId → Begun → Entry
next_entry entries client command = record { client = client; seq = made_by client.0 entries + 1; command = command }

-- the plan with one line more: a command is the next entry of its client
abbrev pub with_chain_line : ChainPlan → ChainLine → ChainPlan
with_chain_line plan (Command client command) =
    record plan { entries = plan.entries ++ next_entry plan.entries client command ∷ [] }
with_chain_line plan (Query query) = record plan { queries = plan.queries ++ query ∷ [] }

-- the plan with these lines more
abbrev pub with_chain_lines : ChainPlan → List ChainLine → ChainPlan
with_chain_lines plan [] = plan
with_chain_lines plan (one ∷ more) = with_chain_lines (with_chain_line plan one) more

abbrev pub empty_plan : ChainPlan
empty_plan = record { entries = []; queries = [] }

-- what these lines give
abbrev pub plan_of : List ChainLine → ChainPlan
plan_of lines = with_chain_lines empty_plan lines

-- lines that may follow those that gave this plan
abbrev pub AreChainLines : ChainPlan → List ChainLine → Type 0
AreChainLines plan [] = Unit {0}
AreChainLines plan (one ∷ more) = IsChainLine (length plan.entries) one × AreChainLines (with_chain_line plan one) more

-- the bytes spell the plan: they are the one spelling of lines that give it
pub record ParsesChain (bytes : List ℕ) (plan : ChainPlan) : Type 0 where
  pub lines : List ChainLine
  pub fit : AreChainLines empty_plan lines
  pub spelt : bytes ≡ chain_first ++ chain_lines lines
  pub given : plan ≡ plan_of lines

-- the bytes begin with the first line
abbrev pub BeginsWithChain : List ℕ → Type 0
BeginsWithChain bytes = (rest : List ℕ) × (bytes ≡ chain_first ++ rest)

-- the bytes go on with a line that may stand below so many commands
abbrev pub BeginsWithLine : ℕ → List ℕ → Type 0
BeginsWithLine above bytes = (one : ChainLine) × (rest : List ℕ) × IsChainLine above one × (bytes ≡ line (chain_text one) ++ rest)

-- the bytes are good lines, and then something that begins with none that may follow them; the bad line is the n-th
pub record StopsChainAt (bytes : List ℕ) (n : ℕ) : Type 0 where
  pub lines : List ChainLine
  pub rest : List ℕ
  pub fit : AreChainLines empty_plan lines
  pub front : bytes ≡ chain_first ++ chain_lines lines ++ rest
  pub more : rest ≢ []
  pub bad : BeginsWithLine (length (plan_of lines).entries) rest → ⊥
  pub number : n ≡ length lines + 2

-- line n of the bytes, counted from 1, is the first that is in no input of a chain
abbrev pub IsBadChainLine : List ℕ → ℕ → Type 0
IsBadChainLine bytes n = ((n ≡ 1) × (BeginsWithChain bytes → ⊥)) ⊎ StopsChainAt bytes n

-- what the reader answers
abbrev pub ReadsChain : List ℕ → Result ChainPlan ScriptStop → Type 0
ReadsChain bytes (Ok plan) = ParsesChain bytes plan
ReadsChain bytes (Err (BadLine n)) = IsBadChainLine bytes n
ReadsChain bytes (Err NoMemory) = Unit {0}

-- how many of the entries each of sixteen clients made
pub record AreMade (entries : List Entry) (made : List ℕ) : Type 0 where
  pub many : length made ≡ 16
  pub each : (client : ℕ) → IsFromOneTo 16 client → slice_index_or made (client - 1) 0 ≡ made_by client entries
