use Rattle.std.proofs.Common.{◌≡◌, subst, arith}
use Rattle.script_lang.specs.Event.{ArePairs, IsAskedPair, asked_words}
use Rattle.script_lang.specs.Reading.{Spells}
use Rattle.script_lang.proofs.PairLemmas.{asked_once}
use Rattle.script_lang.proofs.KindLemmas.{no_pairs_alone}
use Rattle.script_lang.proofs.LiveLemmas.{no_query}
use Rattle.script_lang.proofs.live.query_of.Goals as goal

pub pairs_of-requires-clause-one_way : goal.pairs_of-requires-clause-one_way
pairs_of-requires-clause-one_way c = asked_once

pub returns-then-len-eq0 : goal.returns-then-len-eq0
returns-then-len-eq0 c =
    let read : ArePairs IsAskedPair c.in-Some.pairs × (c.args.words.now ≡ asked_words c.in-Some.pairs) = subst (Spells asked_words (ArePairs IsAskedPair) c.args.words.now) c.in-Some.is c.in_ok-pairs.ensures in
    no_query c.args.words.now (λ pairs fit. no_pairs_alone c.args.words.now c.in-Some.pairs read.0 read.1 (omega (arith, c.len.ensures.value, c.if-len-eq0.true)) pairs fit.some fit.pairs_fit)
