use Rattle.std.proofs.Common.{length}
use Rattle.script_lang.proofs.ChainLineLemmas.{IsReadChain}
use Rattle.script_lang.proofs.chain.read_chain.Given as goal

abbrev pub invariant-loop-rest : goal.invariant-loop-rest
invariant-loop-rest l = IsReadChain l.fn.bytes l.plan l.made l.number l.rest

abbrev pub decreases-loop-rest : goal.decreases-loop-rest
decreases-loop-rest l = length l.rest
