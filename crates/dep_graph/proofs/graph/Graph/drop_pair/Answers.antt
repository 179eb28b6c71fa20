use Rattle.std.proofs.Common.{◌≡◌, ℕ, true, false, eqb, cond, List, [], ◌∷◌, ◌++◌, length, refl, sym, ap, ◌∙◌, subst, arith, length-append}
use Rattle.std.specs.Prelude.{Option, Some}
use Rattle.std.proofs.lemmas.Bool.{eq-eqb, ne_eqb}
use Rattle.std.proofs.lemmas.List.{append-nil}
use Rattle.std.proofs.lemmas.List.Elements.{All-push}
use Rattle.std.proofs.lemmas.Option.{same_Some}
use Rattle.slab.specs.Slab.{Slab, get}
use Rattle.dep_graph.specs.declared.outs.Link.{Link}
use Rattle.dep_graph.specs.declared.graph.Cell.{Cell}
use Rattle.dep_graph.specs.GraphView.{GraphView, is_held, event_at, ins_of}
use Rattle.dep_graph.specs.Links.{pairs_in, slots_of, AreLinked, IsTakenOut, IsDropped}
use Rattle.dep_graph.proofs.HeldLemmas.{events_of}
use Rattle.dep_graph.proofs.LinkLemmas.{named}
use Rattle.dep_graph.proofs.ChangeLemmas.{apart_pairs, IsSound-drop, HasRoom-drop, second_held, dropped}
use Rattle.dep_graph.proofs.graph.Graph.drop_pair.Goals as goal

-- the count in the second event's cell is that of its predecessors
counted : (cells : Slab Cell) (links : List (Option Link)) (to second : ℕ) (cell : Cell) → AreLinked cells links → event_at (slots_of cells) to ≡ Some second → get cells to ≡ Some cell → cell.in_count ≡ ins_of (pairs_in links) second
counted cells links to second cell linked at is =
    linked.ins to cell is ∙ ap (ins_of (pairs_in links)) (named cells to second cell is at)

-- the event of the link is the one that was asked for
same_first : (slots : List (Option ℕ)) (key first id : ℕ) → event_at slots key ≡ Some first → event_at slots key ≡ Some id → first ≡ id
same_first slots key first id is asked = same_Some first id (sym is ∙ asked)

pub unlink-requires-clause-apart : goal.unlink-requires-clause-apart
unlink-requires-clause-apart c = apart_pairs _ c.self.invariant.0.acyclic

pub invariant_of-self-then-index-eq0 : goal.invariant_of-self-then-index-eq0
invariant_of-self-then-index-eq0 c =
    let own = c.self.inside in
    let out = c.in-Some.ensures.some in
    let held = second_held own.keys.entries (pairs_in own.links.items) (pairs_in c.unlink.new.links.items) c.in-Some.link.first.0 c.in-Some.link.second.0 c.self.invariant.0.joined out in
    let all = All-push (λ event. is_held (events_of own.keys.entries) event ≡ true) own.bare.items c.in-Some.link.second.0 c.self.invariant.0.bare held in
    let sound = IsSound-drop own.keys.entries own.cells c.unlink.new.cells own.links.items c.unlink.new.links.items own.bare.items (own.bare.items ++ c.in-Some.link.second.0 ∷ []) c.in-Some.link.first.0 c.in-Some.link.second.0 c.self.invariant.0 out c.unlink.ensures.linked c.unlink.ensures.slots all in
    let room = HasRoom-drop own.links.items c.unlink.new.links.items own.bare.items (own.bare.items ++ c.in-Some.link.second.0 ∷ []) own.count _ c.in-Some.link.first.0 c.in-Some.link.second.0 c.self.invariant.1 out (omega (arith, length-append own.bare.items (c.in-Some.link.second.0 ∷ []))) in
    rw (c.push_reserved.ensures.items, c.push_reserved.ensures.capacity) (sound, room)

pub invariant_of-self-else-index-eq0 : goal.invariant_of-self-else-index-eq0
invariant_of-self-else-index-eq0 c =
    let own = c.self.inside in
    let out = c.in-Some.ensures.some in
    (IsSound-drop own.keys.entries own.cells c.unlink.new.cells own.links.items c.unlink.new.links.items own.bare.items own.bare.items c.in-Some.link.first.0 c.in-Some.link.second.0 c.self.invariant.0 out c.unlink.ensures.linked c.unlink.ensures.slots c.self.invariant.0.bare, HasRoom-drop own.links.items c.unlink.new.links.items own.bare.items own.bare.items own.count _ c.in-Some.link.first.0 c.in-Some.link.second.0 c.self.invariant.1 out (omega arith))

pub returns-then-index-eq0-clause-some : goal.returns-then-index-eq0-clause-some
returns-then-index-eq0-clause-some c _ =
    let own = c.self.inside in
    let link = c.in-Some.link in
    let first = same_first (slots_of own.cells) c.args.key link.first.0 c.args.id.0 c.in-Some.ensures.first (ap (λ (g : GraphView). event_at g.slots c.args.key) c.self.view_is ∙ c.requires) in
    let count = counted c.unlink.new.cells c.unlink.new.links.items link.to link.second.0 c.index.result.now c.unlink.ensures.linked c.in-Some.ensures.second c.index.ensures in
    let none : eqb (ins_of (pairs_in c.unlink.new.links.items) link.second.0) 0 ≡ true = eq-eqb (ins_of (pairs_in c.unlink.new.links.items) link.second.0) 0 (sym count ∙ c.if-index-eq0.true) in
    let bare = c.push_reserved.ensures.items ∙ sym (ap (λ t. own.bare.items ++ cond t (link.second.0 ∷ []) []) none) in
    let old = pairs_in own.links.items in
    let new = pairs_in c.unlink.new.links.items in
    let bared = c.push_reserved.new.self.items in
    subst (λ (g : GraphView). IsDropped c.args.id.0 g.pairs new g.bare bared) c.self.view_is (subst (λ e. IsDropped e old new own.bare.items bared) first (dropped old new own.bare.items bared link.first.0 link.second.0 c.self.invariant.0.distinct (apart_pairs old c.self.invariant.0.acyclic) c.in-Some.ensures.some bare))

pub returns-else-index-eq0-clause-some : goal.returns-else-index-eq0-clause-some
returns-else-index-eq0-clause-some c _ =
    let own = c.self.inside in
    let link = c.in-Some.link in
    let first = same_first (slots_of own.cells) c.args.key link.first.0 c.args.id.0 c.in-Some.ensures.first (ap (λ (g : GraphView). event_at g.slots c.args.key) c.self.view_is ∙ c.requires) in
    let count = counted c.unlink.new.cells c.unlink.new.links.items link.to link.second.0 c.index.result.now c.unlink.ensures.linked c.in-Some.ensures.second c.index.ensures in
    let some : eqb (ins_of (pairs_in c.unlink.new.links.items) link.second.0) 0 ≡ false = ne_eqb (ins_of (pairs_in c.unlink.new.links.items) link.second.0) 0 (λ is. c.if-index-eq0.false (count ∙ is)) in
    let bare = sym (append-nil own.bare.items) ∙ sym (ap (λ t. own.bare.items ++ cond t (link.second.0 ∷ []) []) some) in
    let old = pairs_in own.links.items in
    let new = pairs_in c.unlink.new.links.items in
    let bared = own.bare.items in
    subst (λ (g : GraphView). IsDropped c.args.id.0 g.pairs new g.bare bared) c.self.view_is (subst (λ e. IsDropped e old new own.bare.items bared) first (dropped old new own.bare.items bared link.first.0 link.second.0 c.self.invariant.0.distinct (apart_pairs old c.self.invariant.0.acyclic) c.in-Some.ensures.some bare))
