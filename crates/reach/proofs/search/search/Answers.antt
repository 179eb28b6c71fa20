use Rattle.std.proofs.Common.{◌≡◌, ◌<◌, ◌+◌, false, true, length, sym, ◌∙◌, arith}
use Rattle.std.proofs.lemmas.List.Sums.{sum_by-take-le}
use Rattle.kr_order.proofs.PrefixLemmas.{IsPrefix-length}
use Rattle.dep_graph.specs.GraphView.{outs_of}
use Rattle.reach.specs.Finds.{is_in}
use Rattle.reach.specs.Walk.{event_of, events_of}
use Rattle.reach.proofs.WalkLemmas.{IsSearched-more, Meets-at, steps_of-more}
use Rattle.reach.proofs.search.search.Goals as goal

pub returns-then-follow-clause-met : goal.returns-then-follow-clause-met
returns-then-follow-clause-met g c _ =
    let pairs = c.args.graph.now.pairs in
    let slots = c.args.graph.now.slots in
    let cell = c.at-cell.result in
    let met : is_in (outs_of pairs (event_of slots cell)) c.args.goal.0 ≡ true = sym c.follow.ensures.value ∙ c.if-follow.true in
    Meets-at pairs slots c.args.goal.0 c.args.found.now.cells c.loop-next.found.cells c.loop-next.next cell (omega (arith, c.len.ensures.value, c.loop-next-test.true)) c.at-cell.ensures.value met c.loop-next.invariant.searched

pub returns-then-follow-clause-most : goal.returns-then-follow-clause-most
returns-then-follow-clause-most g c =
    let pairs = c.args.graph.now.pairs in
    let slots = c.args.graph.now.slots in
    let new = c.follow.new.found.cells in
    let next = c.loop-next.next in
    let more = steps_of-more pairs slots c.loop-next.found.cells new next c.at-cell.result (omega (arith, c.len.ensures.value, c.loop-next-test.true)) c.at-cell.ensures.value c.follow.ensures.front in
    let part = sum_by-take-le (λ event. length (outs_of pairs event) + 1) (events_of slots new) (next + 1) in
    omega (arith, more, part, c.loop-next.invariant.steps, c.follow.ensures.most)

pub loop-next-preserved : goal.loop-next-preserved
loop-next-preserved g c =
    let pairs = c.args.graph.now.pairs in
    let slots = c.args.graph.now.slots in
    let now = c.loop-next.found.cells in
    let new = c.follow.new.found.cells in
    let next = c.loop-next.next in
    let cell = c.at-cell.result in
    let below : next < length now = omega (arith, c.len.ensures.value, c.loop-next-test.true) in
    let unmet : is_in (outs_of pairs (event_of slots cell)) c.args.goal.0 ≡ false = sym c.follow.ensures.value ∙ c.if-follow.false in
    let more = steps_of-more pairs slots now new next cell below c.at-cell.ensures.value c.follow.ensures.front in
    let each = c.follow.ensures.each c.if-follow.false in
    record {
      searched = IsSearched-more pairs slots c.args.goal.0 c.args.found.now.cells now new next cell below c.at-cell.ensures.value unmet (c.follow.ensures.found c.if-follow.false) c.follow.ensures.front c.follow.ensures.placed c.loop-next.invariant.searched;
      steps = omega (arith, more, each, c.loop-next.invariant.steps);
      from = omega (arith, c.loop-next.invariant.from);
      least = omega (arith, each, c.loop-next.invariant.least);
      room = c.follow.ensures.room ∙ c.loop-next.invariant.room;
    }

pub returns-clause-least : goal.returns-clause-least
returns-clause-least g c some =
    omega (arith, IsPrefix-length _ _ c.loop-next.invariant.searched.front, c.loop-next.invariant.least, c.loop-next-test.false, c.len.ensures.value)
