use Rattle.clock_import.proofs.WalkLemmas.{between_starts}
use Rattle.clock_import.proofs.order.first_closing.Goals as goal

pub loop-low-init : goal.loop-low-init
loop-low-init c = between_starts c.args.links.now c.args.many c.requires.cycle
