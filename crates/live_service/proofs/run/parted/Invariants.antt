use Rattle.std.proofs.Common.{◌≡◌, false, vec_capacity}
use Rattle.std.specs.Prelude.{All}
use Rattle.live_service.specs.Runs.{HasEnough, passes_of, answers_of}
use Rattle.live_service.proofs.run.parted.Given as goal

abbrev pub invariant-loop-caller : goal.invariant-loop-caller
invariant-loop-caller l = record {
  passes : l.passes.items ≡ passes_of l.yielded;
  room : vec_capacity l.passes ≡ vec_capacity l.initial.passes;
  calls : l.calls.items ≡ answers_of l.yielded;
  room_for_calls : vec_capacity l.calls ≡ vec_capacity l.initial.calls;
  enough : l.failed ≡ false → All HasEnough l.yielded;
}
