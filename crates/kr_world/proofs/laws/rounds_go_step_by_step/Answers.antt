use Rattle.kr_world.proofs.rounds.StepByStepLemmas.{rounds_by_steps}
use Rattle.kr_world.proofs.laws.rounds_go_step_by_step.Goals as goal

pub returns : goal.returns
returns c = rounds_by_steps
