use Rattle.std.proofs.Common.{◌≡◌, true, false, eqb, ap, sym, ◌∙◌}
use Rattle.std.specs.Prelude.{is_some}
use Rattle.std.proofs.lemmas.Bool.{and_left, and_from, eq-eqb}
use Rattle.reach.specs.Finds.{is_in}
use Rattle.reach.specs.Walk.{events_of}
use Rattle.reach.proofs.CellLemmas.{events_of-with, ArePlaced-with}
use Rattle.reach.proofs.WalkLemmas.{led_by-out, led_by-in}
use Rattle.reach.proofs.pairs.follow_pair.Goals as goal

pub returns-then-not-has_first-clause-value : goal.returns-then-not-has_first-clause-value
returns-then-not-has_first-clause-value c =
    let slots = c.args.graph.now.slots in
    let cells = c.args.found.now.cells in
    let out : is_in (events_of slots cells) c.args.pair.now.0.0 ≡ false = sym c.has_first.ensures ∙ c.if-not-has_first.true in
    sym (and_left (is_in (events_of slots cells) c.args.pair.now.0.0) (eqb c.args.pair.now.1.0 c.args.goal.0) out)

pub returns-then-not-has_first-clause-found : goal.returns-then-not-has_first-clause-found
returns-then-not-has_first-clause-found c _ =
    let slots = c.args.graph.now.slots in
    let cells = c.args.found.now.cells in
    let out : is_in (events_of slots cells) c.args.pair.now.0.0 ≡ false = sym c.has_first.ensures ∙ c.if-not-has_first.true in
    led_by-out (events_of slots cells) (c.args.pair.now.0.0, c.args.pair.now.1.0) out

pub returns-then-pair-goal-clause-value : goal.returns-then-pair-goal-clause-value
returns-then-pair-goal-clause-value c =
    let slots = c.args.graph.now.slots in
    let cells = c.args.found.now.cells in
    let there : is_in (events_of slots cells) c.args.pair.now.0.0 ≡ true = sym c.has_first.ensures ∙ c.if-not-has_first.false in
    sym (and_from (is_in (events_of slots cells) c.args.pair.now.0.0) (eqb c.args.pair.now.1.0 c.args.goal.0) there (eq-eqb c.args.pair.now.1.0 c.args.goal.0 c.if-pair-goal.true))

pub returns-clause-found : goal.returns-clause-found
returns-clause-found c _ =
    let slots = c.args.graph.now.slots in
    let cells = c.args.found.now.cells in
    let there : is_in (events_of slots cells) c.args.pair.now.0.0 ≡ true = sym c.has_first.ensures ∙ c.if-not-has_first.false in
    ap (events_of slots) c.add.ensures.cells ∙ events_of-with slots cells c.cell_of-second.result c.args.pair.now.1.0 (record { one = c.recall_graph.ensures.one_cell }) c.requires.placed c.cell_of-second.ensures.event ∙ led_by-in (events_of slots cells) (c.args.pair.now.0.0, c.args.pair.now.1.0) there

pub returns-clause-placed : goal.returns-clause-placed
returns-clause-placed c =
    let slots = c.args.graph.now.slots in
    let cells = c.args.found.now.cells in
    rw (c.add.ensures.cells) (ArePlaced-with slots cells c.cell_of-second.result c.requires.placed (ap is_some c.cell_of-second.ensures.event))
