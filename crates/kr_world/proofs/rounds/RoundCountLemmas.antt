-- A line begins one query at the most.
use Rattle.std.proofs.Common.{ℕ, ◌+◌, Bool, true, false, cond, [], ◌∷◌}
use Rattle.script_lang.specs.declared.script.Event.{Event}
use Rattle.script_lang.specs.declared.script.Event.TheVariants.{Round}
use Rattle.kr_world.specs.World.{World}
use Rattle.kr_world.specs.Step.{is_full}
use Rattle.kr_world.specs.Sound.{HaveBegun}
use Rattle.kr_world.specs.Round.{after_all, round_events, after_line}
use Rattle.kr_world.proofs.steps.CountLemmas.{count_on, queries_counted}
use Rattle.kr_world.proofs.rounds.RoundLemmas.{after_all_kept}
use Rattle.kr_world.proofs.rounds.RoundShapeLemmas.{rounds_ask_nothing}

-- a round begins none
pub round_kept : (n : ℕ) (world : World) → HaveBegun n world.clients → HaveBegun n (after_all world (round_events world)).clients
round_kept n world known = after_all_kept n world (round_events world) (rounds_ask_nothing world) known

pub line_counted : (n : ℕ) (world : World) (event : Event) → HaveBegun n world.clients → HaveBegun (n + 1) (after_line world event).clients
line_counted n world Round known = by_test (is_full world)
  where
    by_test : (test : Bool) → HaveBegun (n + 1) (after_all world (cond test (Round ∷ []) (round_events world))).clients
    by_test true = queries_counted n world Round known
    by_test false = count_on n (after_all world (round_events world)).clients (round_kept n world known)
line_counted n world event known = queries_counted n world event known
