use Rattle.std.proofs.Common.{◌≡◌, ◌<◌, ◌≤◌, ◌+◌, ◌*◌, length, take, ap, sym, ◌∙◌, arith, add-mul, one-mul, mul-le-mul_right}
use Rattle.std.proofs.lemmas.List.{length-map}
use Rattle.std.proofs.lemmas.List.Sums.{sum_by-take-le}
use Rattle.kr_order.proofs.PrefixLemmas.{IsPrefix-length, IsPrefix-map, take_front}
use Rattle.dep_graph.specs.GraphView.{outs_of}
use Rattle.reach.specs.Search.{numbered}
use Rattle.reach.specs.Walk.{event_of, events_of, steps_of}
use Rattle.reach.proofs.EndLemmas.{IsKept-ended, IsUnderWay-more, reach-met, reach-met_extra, reach-ended, steps_bound}
use Rattle.reach.proofs.search.walk_on.Goals as goal

pub returns-then-search-clause-value : goal.returns-then-search-clause-value
returns-then-search-clause-value g c =
    sym (reach-met c.args.graph.now (numbered c.args.extra.now) c.args.a.0 c.args.b.0 c.loop-next.found.cells c.loop-next.next c.loop-next.invariant.under_way (c.search.ensures.met c.if-search.true))

pub returns-then-search-clause-least : goal.returns-then-search-clause-least
returns-then-search-clause-least g c =
    let below : c.loop-next.next < length c.loop-next.found.cells = omega (arith, c.len.ensures.value, c.loop-next-test.true) in
    omega (arith, c.search.ensures.least below, c.loop-next.invariant.least)

pub returns-then-search-clause-most : goal.returns-then-search-clause-most
returns-then-search-clause-most g c start within =
    let graph = c.args.graph.now in
    let new = c.search.new.found.cells in
    let le = IsPrefix-length c.loop-next.found.cells new c.search.ensures.front in
    steps_bound graph new start c.search.new.steps c.loop-next.next (length c.args.extra.now) c.recall_graph.ensures c.search.ensures.placed (omega (arith, c.search.ensures.most, c.loop-next.invariant.most, within)) (omega (arith, le, c.loop-next.invariant.under_way.within))

pub returns-then-follow_each-clause-value : goal.returns-then-follow_each-clause-value
returns-then-follow_each-clause-value g c =
    sym (reach-met_extra c.args.graph.now (numbered c.args.extra.now) c.args.a.0 c.args.b.0 c.loop-next.found.cells c.search.new.found.cells c.loop-next.next c.loop-next.invariant.under_way (c.search.ensures.leads c.if-search.false) (c.follow_each.ensures.met c.if-follow_each.true))

pub returns-then-follow_each-clause-least : goal.returns-then-follow_each-clause-least
returns-then-follow_each-clause-least g c =
    let below : c.loop-next.next < length c.loop-next.found.cells = omega (arith, c.len.ensures.value, c.loop-next-test.true) in
    omega (arith, c.search.ensures.least below, c.loop-next.invariant.least, c.follow_each.ensures.least)

pub returns-then-follow_each-clause-most : goal.returns-then-follow_each-clause-most
returns-then-follow_each-clause-most g c start within =
    let graph = c.args.graph.now in
    let extra = length c.args.extra.now in
    let mid = c.search.new.found.cells in
    let next = c.loop-next.next in
    let le = IsPrefix-length c.loop-next.found.cells mid c.search.ensures.front in
    let below : next < length c.loop-next.found.cells = omega (arith, c.len.ensures.value, c.loop-next-test.true) in
    let one_more : (next + 1) * extra ≡ next * extra + extra = add-mul next 1 extra ∙ ap (λ n. next * extra + n) (one-mul extra) in
    steps_bound graph mid start c.follow_each.new.steps (next + 1) extra c.recall_graph.ensures c.search.ensures.placed (omega (arith, one_more, c.search.ensures.most, c.follow_each.ensures.most, c.loop-next.invariant.most, within)) (omega (arith, le, below))

pub loop-next-preserved : goal.loop-next-preserved
loop-next-preserved g c =
    let graph = c.args.graph.now in
    let pairs = graph.pairs in
    let extra = length c.args.extra.now in
    let cells = c.loop-next.found.cells in
    let mid = c.search.new.found.cells in
    let new = c.follow_each.new.found.cells in
    let next = c.loop-next.next in
    let size = c.len-next.ensures.value in
    let below : next < length cells = omega (arith, c.len.ensures.value, c.loop-next-test.true) in
    let le = IsPrefix-length cells mid c.search.ensures.front in
    let one_more : (next + 1) * extra ≡ next * extra + extra = add-mul next 1 extra ∙ ap (λ n. next * extra + n) (one-mul extra) in
    let product : (next + 1) * extra ≤ c.len-next.result * extra = mul-le-mul_right extra (omega (arith, size, below, le)) in
    let events = events_of graph.slots mid in
    let ahead = IsPrefix-map (event_of graph.slots) mid new c.follow_each.ensures.front in
    let taken : take c.len-next.result (events_of graph.slots new) ≡ events = ap (λ k. take k (events_of graph.slots new)) (size ∙ sym (length-map mid (event_of graph.slots))) ∙ take_front events (events_of graph.slots new) ahead in
    let searched = c.search.ensures in
    let led = c.follow_each.ensures in
    record {
      under_way = IsUnderWay-more graph (numbered c.args.extra.now) c.args.a.0 c.args.b.0 cells mid new next c.len-next.result c.loop-next.invariant.under_way (searched.leads c.if-search.false) (searched.followed c.if-search.false) searched.front (led.leads c.if-follow_each.false) (led.followed c.if-follow_each.false) led.front led.placed size;
      most = omega (arith, one_more, product, searched.most, led.most, c.loop-next.invariant.most, ap (steps_of pairs) taken);
      least = omega (arith, searched.least below, led.least, c.loop-next.invariant.least);
      more = λ _. omega (arith, searched.least below, led.least, c.loop-next.invariant.least);
      from = omega (arith, size, below, le, c.loop-next.invariant.from);
      longer = omega (arith, le, IsPrefix-length mid new led.front, c.loop-next.invariant.longer);
      room = led.room ∙ searched.room ∙ c.loop-next.invariant.room;
    }

pub returns-clause-value : goal.returns-clause-value
returns-clause-value g c =
    sym (reach-ended c.args.graph.now (numbered c.args.extra.now) c.args.a.0 c.args.b.0 c.loop-next.found.cells c.loop-next.next (omega (arith, c.len.ensures.value, c.loop-next-test.false)) c.loop-next.invariant.under_way)

pub returns-clause-most : goal.returns-clause-most
returns-clause-most g c start within =
    let graph = c.args.graph.now in
    let cells = c.loop-next.found.cells in
    let part = sum_by-take-le (λ event. length (outs_of graph.pairs event) + 1) (events_of graph.slots cells) c.loop-next.next in
    steps_bound graph cells start c.loop-next.steps c.loop-next.next (length c.args.extra.now) c.recall_graph.ensures c.loop-next.invariant.under_way.placed (omega (arith, part, c.loop-next.invariant.most, within)) c.loop-next.invariant.under_way.within

pub returns-clause-kept : goal.returns-clause-kept
returns-clause-kept g c _ =
    IsKept-ended c.args.graph.now (numbered c.args.extra.now) c.args.a.0 c.args.b.0 c.loop-next.found.cells c.loop-next.next (omega (arith, c.len.ensures.value, c.loop-next-test.false)) c.loop-next.invariant.under_way

pub returns-clause-more : goal.returns-clause-more
returns-clause-more g c some =
    c.loop-next.invariant.more (omega (arith, some, c.len.ensures.value, c.loop-next-test.false, c.loop-next.invariant.longer))
