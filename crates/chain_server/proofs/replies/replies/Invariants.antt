use Rattle.std.proofs.Common.{◌≡◌, ◌++◌, drop, map}
use Rattle.kr_protocol.specs.Server.{reply_packet, lasts}
use Rattle.chain_server.proofs.replies.replies.Given as goal

-- what is left gives what the whole gives
abbrev pub invariant-loop-done : goal.invariant-loop-done
invariant-loop-done g l = l.packets ++ map (reply_packet l.id) (lasts (drop l.done-index l.newest)) ≡ map (reply_packet l.id) (lasts l.newest)
