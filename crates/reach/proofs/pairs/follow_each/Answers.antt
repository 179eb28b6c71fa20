use Rattle.std.proofs.Common.{◌≡◌, ℕ, ◌<◌, ◌&&◌, true, false, eqb, List, length, get_or, ap, subst, sym, ◌∙◌, arith}
use Rattle.std.proofs.lemmas.List.{get_or-map, length-map, take_all}
use Rattle.kr_order.specs.declared.ids.EventId.{EventId}
use Rattle.reach.specs.Finds.{is_in}
use Rattle.reach.specs.Search.{numbered}
use Rattle.reach.specs.Walk.{events_of, AreFollowed, led_by}
use Rattle.reach.proofs.WalkLemmas.{IsLedOn-more, Meets-pair}
use Rattle.reach.proofs.pairs.follow_each.Goals as goal

-- the pair at an index, by its numbers
numbered-at : (pairs : List (EventId × EventId)) (i : ℕ) (d : EventId × EventId) → i < length pairs → get_or (numbered pairs) i (0, 0) ≡ ((get_or pairs i d).0.0, (get_or pairs i d).1.0)
numbered-at pairs i d below = get_or-map (λ (pair : EventId × EventId). (pair.0.0, pair.1.0)) pairs i d (0, 0) below

length-numbered : (pairs : List (EventId × EventId)) → length (numbered pairs) ≡ length pairs
length-numbered pairs = length-map pairs (λ (pair : EventId × EventId). (pair.0.0, pair.1.0))

pub returns-then-follow_pair-clause-met : goal.returns-then-follow_pair-clause-met
returns-then-follow_pair-clause-met g c _ =
    let pairs = c.args.pairs.now in
    let i = c.loop-pair.pair-index in
    let events = events_of c.args.graph.now.slots c.loop-pair.found.cells in
    let at = numbered-at pairs i (record { 0 = 0 }, record { 0 = 0 }) (omega arith) in
    let met : (is_in events (get_or (numbered pairs) i (0, 0)).0 && eqb (get_or (numbered pairs) i (0, 0)).1 c.args.goal.0) ≡ true = ap (λ (pair : ℕ × ℕ). is_in events pair.0 && eqb pair.1 c.args.goal.0) at ∙ sym c.follow_pair.ensures.value ∙ c.if-follow_pair.true in
    Meets-pair (numbered pairs) c.args.graph.now.slots c.args.goal.0 c.args.found.now.cells c.loop-pair.found.cells i (0, 0) (omega (arith, length-numbered pairs)) met c.loop-pair.invariant.led

pub loop-pair-preserved : goal.loop-pair-preserved
loop-pair-preserved g c =
    let pairs = c.args.pairs.now in
    let slots = c.args.graph.now.slots in
    let i = c.loop-pair.pair-index in
    let events = events_of slots c.loop-pair.found.cells in
    let at = numbered-at pairs i (record { 0 = 0 }, record { 0 = 0 }) (omega arith) in
    let unmet : (is_in events (get_or (numbered pairs) i (0, 0)).0 && eqb (get_or (numbered pairs) i (0, 0)).1 c.args.goal.0) ≡ false = ap (λ (pair : ℕ × ℕ). is_in events pair.0 && eqb pair.1 c.args.goal.0) at ∙ sym c.follow_pair.ensures.value ∙ c.if-follow_pair.false in
    let found : events_of slots c.follow_pair.new.found.cells ≡ led_by (get_or (numbered pairs) i (0, 0)) events = c.follow_pair.ensures.found c.if-follow_pair.false ∙ ap (λ (pair : ℕ × ℕ). led_by pair events) (sym at) in
    record {
      led = IsLedOn-more (numbered pairs) slots c.args.goal.0 c.args.found.now.cells c.loop-pair.found.cells c.follow_pair.new.found.cells i (0, 0) (omega (arith, length-numbered pairs)) unmet found c.follow_pair.ensures.front c.follow_pair.ensures.placed c.loop-pair.invariant.led;
      steps = omega (arith, c.loop-pair.invariant.steps);
      room = c.follow_pair.ensures.room ∙ c.loop-pair.invariant.room;
      known = c.follow_pair.ensures.known;
    }

pub returns-clause-followed : goal.returns-clause-followed
returns-clause-followed g c _ size =
    let pairs = numbered c.args.pairs.now in
    let events = events_of c.args.graph.now.slots c.loop-pair.found.cells in
    subst (λ (ps : List (ℕ × ℕ)). AreFollowed ps c.args.goal.0 events events) (take_all c.loop-pair.pair-index pairs (omega (arith, length-numbered c.args.pairs.now))) (c.loop-pair.invariant.led.followed size)
