use Rattle.std.proofs.Common.{length}
use Rattle.script_lang.proofs.WordLemmas.{IsReadUpTo}
use Rattle.script_lang.proofs.pairs.pairs_of.Given as goal

abbrev pub invariant-loop-rest : goal.invariant-loop-rest
invariant-loop-rest g l = IsReadUpTo g.P.Spelt.word g.P.Spelt.fits l.fn.text l.pairs l.rest

abbrev pub decreases-loop-rest : goal.decreases-loop-rest
decreases-loop-rest g l = length l.rest
