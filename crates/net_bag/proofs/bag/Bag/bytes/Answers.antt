use Rattle.std.proofs.Common.{subst}
use Rattle.std.specs.Prelude.{All}
use Rattle.kr_wire.specs.Decoding.{IsSpelling}
use Rattle.net_bag.specs.Sent.{Sent}
use Rattle.net_bag.proofs.bag.Bag.bytes.Goals as goal

pub returns-clause-spelt : goal.returns-clause-spelt
returns-clause-spelt c = subst (λ (s : Sent). All IsSpelling s.spellings) c.self.view_is c.self.invariant.each
