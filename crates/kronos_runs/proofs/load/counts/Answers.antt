use Rattle.std.proofs.Common.{◌≡◌, map, ap, ◌∙◌}
use Rattle.kr_order.specs.declared.history.DoneEntry.{DoneEntry}
use Rattle.kronos_runs.proofs.LoadLemmas.{entries_of_journal, counted_so}
use Rattle.kronos_runs.proofs.load.counts.Goals as goal

pub returns : goal.returns
returns c =
    let cluster = c.args.cluster.now in
    let seen = c.in_ok-state.state.history in
    let journal = c.journal.result.now in
    let all = c.in_ok-state.ensures ∙ ap (map (λ (done : DoneEntry). done.entry)) c.as_slice-journal.ensures in
    let seen_is : seen ≡ cluster.world.history = entries_of_journal cluster.world.history seen journal (c.journal.ensures c.requires) all in
    counted_so c.args.calls cluster seen c.count.result c.packets.result c.born.result c.held.result c.pairs_held.result c.befores.result seen_is c.count.ensures (c.packets.ensures c.requires) c.born.ensures c.held.ensures c.pairs_held.ensures c.befores.ensures
