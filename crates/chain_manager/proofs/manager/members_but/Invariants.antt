use Rattle.std.proofs.Common.{◌≡◌, take}
use Rattle.kr_protocol.specs.Manager.{members_but}
use Rattle.chain_manager.proofs.manager.members_but.Given as goal

abbrev pub invariant-loop-member : goal.invariant-loop-member
invariant-loop-member l = l.members ≡ members_but (take l.member-index l.chain) l.id
