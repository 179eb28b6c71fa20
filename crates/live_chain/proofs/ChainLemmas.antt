-- The lists of the nodes are the plan's.
use Rattle.std.proofs.Common.{◌≡◌, ℕ, false, List, sym, ap, ◌∙◌, subst}
use Rattle.kr_order.specs.declared.history.Entry.{Entry}
use Rattle.kr_order.specs.Done.{done_of}
use Rattle.kr_order.specs.Prefix.{IsPrefix}
use Rattle.rtrb.specs.Ring.{sent, received}
use Rattle.script_lang.specs.declared.chain.ChainPlan.{ChainPlan}
use Rattle.live_chain.specs.declared.ring.Passed.{Passed}
use Rattle.live_chain.specs.declared.run.Chain.{Chain}
use Rattle.live_chain.specs.declared.run.ChainNode.{ChainNode}
use Rattle.live_chain.specs.declared.stage.Stage.{Stage}
use Rattle.live_chain.specs.Lawful.{AreToldAfter, ChainLawful, IsLawfulAt, queries_of}
use Rattle.live_chain.specs.Rings.{From, Into, WasSent, whole}
use Rattle.live_chain.specs.Nodes.{IsThrough}
use Rattle.live_chain.specs.Stages.{HasRunChain}
use Rattle.live_chain.proofs.RingLemmas.{whole_once}

-- what came of a node and its reader that did not fail
abbrev pub HasLeft : ChainPlan → Stage → ChainNode → Type 0
HasLeft plan stage made =
    (stage.node.failed ≡ false) × (made.journal ≡ done_of stage.node.writer.list)
    × AreToldAfter stage.node.writer.list 0 (queries_of stage.teller.node plan.queries) made.told

-- a node that was passed what went in has the list that went in
passed_all : (stage : Stage) (list : List Entry) → IsThrough stage.node → IsPrefix (received stage.node.from) (whole list)
    → stage.node.writer.list ≡ list
passed_all stage list through begins =
    whole_once stage.node.writer.list list (subst (λ items. IsPrefix items (whole list)) through.got begins)

lawful_at : (plan : ChainPlan) (number : ℕ) (stage : Stage) (made : ChainNode) → stage.node.writer.list ≡ plan.entries → stage.teller.node ≡ number
    → HasLeft plan stage made → IsLawfulAt plan number made
lawful_at plan number stage made list node left = record {
  journal = left.1 ∙ ap done_of list;
  told = subst (λ n. AreToldAfter plan.entries 0 (queries_of n plan.queries) made.told) node
      (subst (λ l. AreToldAfter l 0 (queries_of stage.teller.node plan.queries) made.told) list left.2);
}

-- where out of each ring came a beginning of what went in, the run is right
pub chain_lawful : (plan : ChainPlan) (chain : Chain) (head middle tail : ChainNode) → HasRunChain plan.queries chain
    → sent chain.ring ≡ whole plan.entries → IsPrefix (received chain.head.node.from) (sent chain.ring)
    → ((items : List Passed) → WasSent items chain.head.node.next → IsPrefix (received chain.middle.node.from) items)
    → ((items : List Passed) → WasSent items chain.middle.node.next → IsPrefix (received chain.tail.node.from) items)
    → HasLeft plan chain.head head → HasLeft plan chain.middle middle → HasLeft plan chain.tail tail
    → ChainLawful plan (record { head = head; middle = middle; tail = tail })
chain_lawful plan chain head middle tail run fed begins on on' left left' left'' =
    let through = run.head.through left.0 in
    let through' = run.middle.through left'.0 in
    let first : chain.head.node.writer.list ≡ plan.entries =
    passed_all chain.head plan.entries through (subst (IsPrefix (received chain.head.node.from)) fed begins) in
    let second : chain.middle.node.writer.list ≡ chain.head.node.writer.list =
    passed_all chain.middle chain.head.node.writer.list through' (on (whole chain.head.node.writer.list) through.next) in
    let third : chain.tail.node.writer.list ≡ chain.middle.node.writer.list =
    passed_all chain.tail chain.middle.node.writer.list (run.tail.through left''.0) (on' (whole chain.middle.node.writer.list) through'.next) in
    record {
      head = lawful_at plan 1 chain.head head first run.head_is left;
      middle = lawful_at plan 2 chain.middle middle (second ∙ first) run.middle_is left';
      tail = lawful_at plan 3 chain.tail tail (third ∙ second ∙ first) run.tail_is left'';
    }
