use Rattle.std.proofs.Common.{length}
use Rattle.live_service.proofs.close.+gather.Given as goal

abbrev pub decreases-gather : goal.decreases-gather
decreases-gather g l = length l.passes.items
