use Rattle.std.proofs.Common.{◌≡◌, ◌*◌, ◌≤◌}
use Rattle.load_gen.specs.Made.{made_events, sent_by}
use Rattle.load_gen.proofs.rounds.make.Given as goal

abbrev pub invariant-loop-done : goal.invariant-loop-done
invariant-loop-done l = record { made : l.making ≡ made_events l.done; few : sent_by l.making ≤ 28 * l.done }
