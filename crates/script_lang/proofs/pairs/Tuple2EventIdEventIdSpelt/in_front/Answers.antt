use Rattle.script_lang.proofs.PairLemmas.{no_asked_sign}
use Rattle.script_lang.proofs.pairs.Tuple2EventIdEventIdSpelt.in_front.Goals as goal

pub returns-then-sign-ne44-clause-none : goal.returns-then-sign-ne44-clause-none
returns-then-sign-ne44-clause-none c = no_asked_sign c.args.bytes.now c.in_ok-word.word.now c.in_ok-first.first c.in_ok-first.sign c.in_ok-first.second c.in_ok-first.rest.now c.in_ok-word.ensures.some c.in_ok-first.ensures.some c.if-sign-ne44.true
