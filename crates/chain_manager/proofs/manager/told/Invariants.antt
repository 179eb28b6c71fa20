use Rattle.std.proofs.Common.{◌≡◌, map, take}
use Rattle.kr_protocol.specs.Manager.{view_packet}
use Rattle.chain_manager.proofs.manager.told.Given as goal

abbrev pub invariant-loop-id : goal.invariant-loop-id
invariant-loop-id l = l.packets ≡ map (view_packet l.fn.view) (take l.id-index l.ids)
