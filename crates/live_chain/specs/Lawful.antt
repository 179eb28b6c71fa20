-- What is right of a chain's run: one history at all three nodes, and of it all that their readers told.
use Rattle.std.specs.Prelude.{◌≡◌, ◌≤◌, ◌==◌, ℕ, List, [], ◌∷◌, length, flat_map, if◌then◌else◌}
use Rattle.kr_order.specs.declared.answer.Told.{Told}
use Rattle.kr_order.specs.declared.history.Entry.{Entry}
use Rattle.kr_order.specs.Done.{done_of}
use Rattle.kr_order.specs.Prefix.{IsPrefix}
use Rattle.order_board.specs.Views.{told_of}
use Rattle.script_lang.specs.declared.chain.ChainPlan.{ChainPlan}
use Rattle.script_lang.specs.declared.chain.ChainQuery.{ChainQuery}
use Rattle.live_chain.specs.declared.run.ChainNode.{ChainNode}
use Rattle.live_chain.specs.declared.run.ChainRun.{ChainRun}

-- the query, where it is the node's
abbrev pub own_query : ℕ → ChainQuery → List ChainQuery
own_query node query = if query.node == node then query ∷ [] else []

-- the queries of one node, in the order of their lines
abbrev pub queries_of : ℕ → List ChainQuery → List ChainQuery
queries_of node queries = flat_map (own_query node) queries

-- a query of a node that told of so many entries before: its answers are those after a beginning of the history that has at
-- least as many, and at least as many as the query asks for
pub record IsToldAfter (history : List Entry) (last : ℕ) (query : ChainQuery) (told : Told) : Type 0 where
  pub before : List Entry
  pub past : last ≤ length before
  pub least : query.least ≤ length before
  pub stands : IsPrefix before history
  pub told_is : told ≡ told_of before query.pairs

-- each of these queries has an answer, in their order, of a node that told of so many entries before them
abbrev pub AreToldAfter : List Entry → ℕ → List ChainQuery → List Told → Type 0
AreToldAfter history last [] [] = Unit {0}
AreToldAfter history last [] (told ∷ more) = ⊥
AreToldAfter history last (query ∷ queries) [] = ⊥
AreToldAfter history last (query ∷ queries) (told ∷ more) =
    IsToldAfter history last query told × AreToldAfter history told.entry queries more

-- what came of the node of this number is right of the plan: its journal is the plan's entries in their order, each with its
-- place and its reply, and its reader told of beginnings of them
pub record IsLawfulAt (plan : ChainPlan) (number : ℕ) (node : ChainNode) : Type 0 where
  pub journal : node.journal ≡ done_of plan.entries
  pub told : AreToldAfter plan.entries 0 (queries_of number plan.queries) node.told

-- what came of all nodes is right of the plan
pub record ChainLawful (plan : ChainPlan) (run : ChainRun) : Type 0 where
  pub head : IsLawfulAt plan 1 run.head
  pub middle : IsLawfulAt plan 2 run.middle
  pub tail : IsLawfulAt plan 3 run.tail
