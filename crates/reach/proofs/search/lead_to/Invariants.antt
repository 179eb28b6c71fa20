use Rattle.std.proofs.Common.{◌≡◌, ◌<◌, ◌==◌, ℕ, false, slice_index_or}
use Rattle.reach.proofs.search.lead_to.Given as goal

-- no pair so far leads to the goal
abbrev pub invariant-loop-pair : goal.invariant-loop-pair
invariant-loop-pair l =
    (k : ℕ) → k < l.pair-index → ((slice_index_or l.pairs k (record { 0 = 0 }, record { 0 = 0 })).1.0 == l.goal.0) ≡ false
