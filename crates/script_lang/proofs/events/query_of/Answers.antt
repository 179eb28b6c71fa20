use Rattle.std.proofs.Common.{◌≡◌, subst, arith}
use Rattle.script_lang.specs.Event.{ArePairs, IsAskedPair, asked_words}
use Rattle.script_lang.specs.Reading.{Spells}
use Rattle.script_lang.proofs.PairLemmas.{asked_once}
use Rattle.script_lang.proofs.KindLemmas.{query_without_server, query_without_pairs, no_pairs_alone}
use Rattle.script_lang.proofs.events.query_of.Goals as goal

pub returns-in_default-number_word : goal.returns-in_default-number_word
returns-in_default-number_word c =
    query_without_server c.args.words.now c.in-Some.client c.in-Some.rest.now c.in-Some.ensures.some c.in_default-number_word.ensures.none

pub returns-in_default-2 : goal.returns-in_default-2
returns-in_default-2 c =
    let none = subst (Spells asked_words (ArePairs IsAskedPair) c.in-Some-number_word.rest.now) c.in_default-2.is c.in_ok-pairs.ensures in
    query_without_pairs c.args.words.now c.in-Some.client c.in-Some.rest.now c.in-Some-number_word.server c.in-Some-number_word.rest.now c.in-Some.ensures.some c.in-Some-number_word.ensures.some (λ pairs _ fit. none pairs fit)

pub returns-then-len-lt-FEWEST_ASKED : goal.returns-then-len-lt-FEWEST_ASKED
returns-then-len-lt-FEWEST_ASKED c =
    let read : ArePairs IsAskedPair c.in-Some-2.pairs × (c.in-Some-number_word.rest.now ≡ asked_words c.in-Some-2.pairs) = subst (Spells asked_words (ArePairs IsAskedPair) c.in-Some-number_word.rest.now) c.in-Some-2.is c.in_ok-pairs.ensures in
    query_without_pairs c.args.words.now c.in-Some.client c.in-Some.rest.now c.in-Some-number_word.server c.in-Some-number_word.rest.now c.in-Some.ensures.some c.in-Some-number_word.ensures.some (no_pairs_alone c.in-Some-number_word.rest.now c.in-Some-2.pairs read.0 read.1 (omega (arith, c.len.ensures.value, c.if-len-lt-FEWEST_ASKED.true)))

pub pairs_of-requires-clause-one_way : goal.pairs_of-requires-clause-one_way
pairs_of-requires-clause-one_way c = asked_once
