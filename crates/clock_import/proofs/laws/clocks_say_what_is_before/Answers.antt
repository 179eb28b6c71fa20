use Rattle.clock_import.proofs.BeforeLemmas.{clocks_say}
use Rattle.clock_import.proofs.laws.clocks_say_what_is_before.Goals as goal

pub returns : goal.returns
returns c = clocks_say
