use Rattle.net_bag.proofs.BitLemmas.{bit_in-set}
use Rattle.net_bag.proofs.bits.set_bit.Goals as goal

pub returns : goal.returns
returns c = bit_in-set c.args.words.now c.args.i c.requires
