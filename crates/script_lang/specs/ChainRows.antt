-- The input of a chain with a line of each kind, how it is spelt, and the plan that it gives.
use Rattle.std.specs.Prelude.{ℕ, List, [], ◌∷◌, ◌++◌, codes}
use Rattle.kr_order.specs.declared.ids.ClientId.{ClientId}
use Rattle.kr_order.specs.declared.history.Command.TheVariants.{Create, Assign, Acquire, Release}
use Rattle.kr_order.specs.declared.history.Command.{Command as Begun}
use Rattle.kr_order.specs.declared.history.Entry.{Entry}
use Rattle.script_lang.specs.declared.chain.ChainLine.{ChainLine}
use Rattle.script_lang.specs.declared.chain.ChainLine.TheVariants.{Command, Query}
use Rattle.script_lang.specs.declared.chain.ChainQuery.{ChainQuery}
use Rattle.script_lang.specs.declared.chain.ChainPlan.{ChainPlan}
use Rattle.script_lang.specs.Line.{line}
use Rattle.script_lang.specs.Rows.{must, asked}
use Rattle.script_lang.specs.LiveRows.{event}

-- the command of this client
abbrev pub made : ℕ → Begun → ChainLine
made client command = let who : ClientId = record { 0 = client } in Command who command

-- its entry with this number
abbrev pub put : ℕ → ℕ → Begun → Entry
put client seq command = record { client = record { 0 = client }; seq = seq; command = command }

-- a query of the head after all three entries, and one of the tail at once
abbrev pub of_head : ChainQuery
of_head = record { node = 1; least = 3; pairs = asked 1 2 ∷ [] }

abbrev pub of_tail : ChainQuery
of_tail = record { node = 3; least = 0; pairs = asked 2 1 ∷ asked 1 1 ∷ [] }

abbrev pub each_kind : List ChainLine
each_kind =
    made 1 Create ∷ made 16 Create ∷ Query of_tail ∷ made 1 (Assign (must 1 2 ∷ [])) ∷ Query of_head ∷ made 16 (Acquire (event 2))
    ∷ made 1 (Release (event 1)) ∷ []

-- its spelling
abbrev pub each_kind_spelt : List ℕ
each_kind_spelt =
    line (codes "chain") ++ line (codes "create 1") ++ line (codes "create 16") ++ line (codes "query 3 0 2,1 1,1")
    ++ line (codes "assign 1 1!2") ++ line (codes "query 1 3 1,2") ++ line (codes "acquire 16 2") ++ line (codes "release 1 1")

-- its plan
abbrev pub each_kind_planned : ChainPlan
each_kind_planned = record {
  entries =
      put 1 1 Create ∷ put 16 1 Create ∷ put 1 2 (Assign (must 1 2 ∷ [])) ∷ put 16 2 (Acquire (event 2))
      ∷ put 1 3 (Release (event 1)) ∷ [];
  queries = of_tail ∷ of_head ∷ [];
}

-- a query asks for one more entry than there are commands above it
abbrev pub asks_too_much_spelt : List ℕ
asks_too_much_spelt = line (codes "chain") ++ line (codes "create 1") ++ line (codes "query 2 2 1,1")
