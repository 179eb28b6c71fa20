use Rattle.std.proofs.Common.{◌≡◌, ◌≤◌, length, take, vec_capacity}
use Rattle.live_service.proofs.reply.filled.Given as goal

abbrev pub invariant-loop-outcome : goal.invariant-loop-outcome
invariant-loop-outcome l =
    (l.room.items ≡ take l.outcome-index l.outcome-items) × (length l.outcome-items ≤ vec_capacity l.room)
