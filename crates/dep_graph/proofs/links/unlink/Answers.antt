use Rattle.std.proofs.Common.{◌≡◌, sym, ap, ◌∙◌, arith}
use Rattle.dep_graph.specs.GraphView.{event_at}
use Rattle.dep_graph.proofs.LinkLemmas.{AreLinked-drop, slots_of-cells_with}
use Rattle.dep_graph.proofs.UnlinkLemmas.{no_outs, start_below, slot_some, start_read, taken_out, second_some, start_ends, second_counts}
use Rattle.dep_graph.proofs.links.unlink.Goals as goal

pub returns-in-None-clause-none : goal.returns-in-None-clause-none
returns-in-None-clause-none c =
    no_outs c.args.cells.now c.args.links.now.items c.args.key c.index.result.now c.requires.linked c.index.ensures c.in-None.is

pub index-requires-2 : goal.index-requires-2
index-requires-2 c =
    let below = start_below c.args.cells.now c.args.links.now.items c.args.key c.in-Some.at c.index.result.now c.requires.linked c.index.ensures c.in-Some.is in
    omega (arith, below, c.args.links.now.ok.0)

pub unwrap-link-requires : goal.unwrap-link-requires
unwrap-link-requires c =
    slot_some c.args.cells.now c.args.links.now.items c.args.key c.in-Some.at c.index.result.now c.index-2.result.now c.requires.linked c.index.ensures c.in-Some.is c.index-2.ensures

pub index_mut-requires : goal.index_mut-requires
index_mut-requires c =
    let below = start_below c.args.cells.now c.args.links.now.items c.args.key c.in-Some.at c.index.result.now c.requires.linked c.index.ensures c.in-Some.is in
    omega (arith, below, c.args.links.now.ok.0)

pub index_mut-requires-3 : goal.index_mut-requires-3
index_mut-requires-3 c =
    let is = start_read c.args.cells.now c.args.links.now.items c.args.key c.in-Some.at c.index.result.now c.index-2.result.now c.unwrap-link.result c.requires.linked c.requires.apart c.index.ensures c.in-Some.is c.index-2.ensures c.unwrap-link.ensures in
    second_some c.args.cells.now c.args.links.now.items c.args.key c.in-Some.at c.unwrap-link.result _ is

pub overflow_sub-index_mut : goal.overflow_sub-index_mut
overflow_sub-index_mut c =
    let is = start_read c.args.cells.now c.args.links.now.items c.args.key c.in-Some.at c.index.result.now c.index-2.result.now c.unwrap-link.result c.requires.linked c.requires.apart c.index.ensures c.in-Some.is c.index-2.ensures c.unwrap-link.ensures in
    second_counts c.args.cells.now c.args.links.now.items c.args.key c.in-Some.at c.unwrap-link.result _ c.index_mut-3.result.now c.requires.linked is c.index_mut-3.ensures.value

pub returns-clause-some : goal.returns-clause-some
returns-clause-some c =
    taken_out c.args.cells.now c.args.links.now.items c.args.key c.in-Some.at c.unwrap-link.result (start_read c.args.cells.now c.args.links.now.items c.args.key c.in-Some.at c.index.result.now c.index-2.result.now c.unwrap-link.result c.requires.linked c.requires.apart c.index.ensures c.in-Some.is c.index-2.ensures c.unwrap-link.ensures)

pub returns-clause-first : goal.returns-clause-first
returns-clause-first c =
    (start_read c.args.cells.now c.args.links.now.items c.args.key c.in-Some.at c.index.result.now c.index-2.result.now c.unwrap-link.result c.requires.linked c.requires.apart c.index.ensures c.in-Some.is c.index-2.ensures c.unwrap-link.ensures).first_at

pub returns-clause-second : goal.returns-clause-second
returns-clause-second c =
    let is = start_read c.args.cells.now c.args.links.now.items c.args.key c.in-Some.at c.index.result.now c.index-2.result.now c.unwrap-link.result c.requires.linked c.requires.apart c.index.ensures c.in-Some.is c.index-2.ensures c.unwrap-link.ensures in
    ap (λ slots. event_at slots c.unwrap-link.result.to) (slots_of-cells_with c.args.cells.now c.args.key c.unwrap-link.result.to c.index_mut-2.result.now c.index_mut-3.result.now c.unwrap-link.result.next _ c.index_mut-2.ensures.value c.index_mut-3.ensures.value) ∙ is.second_at

pub returns-clause-linked : goal.returns-clause-linked
returns-clause-linked c =
    let is = start_read c.args.cells.now c.args.links.now.items c.args.key c.in-Some.at c.index.result.now c.index-2.result.now c.unwrap-link.result c.requires.linked c.requires.apart c.index.ensures c.in-Some.is c.index-2.ensures c.unwrap-link.ensures in
    AreLinked-drop c.args.cells.now c.args.links.now.items c.unwrap-link.result c.index_mut-2.result.now c.index_mut-3.result.now c.in-Some.at c.args.key c.requires.linked (start_ends c.args.cells.now c.args.links.now.items c.args.key c.in-Some.at c.unwrap-link.result c.index_mut-2.result.now c.index_mut-3.result.now is c.index_mut-2.ensures.value c.index_mut-3.ensures.value) is.gap

pub returns-clause-slots : goal.returns-clause-slots
returns-clause-slots c =
    slots_of-cells_with c.args.cells.now c.args.key c.unwrap-link.result.to c.index_mut-2.result.now c.index_mut-3.result.now c.unwrap-link.result.next _ c.index_mut-2.ensures.value c.index_mut-3.ensures.value
