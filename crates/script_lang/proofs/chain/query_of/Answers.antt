use Rattle.std.proofs.Common.{◌≡◌, ◌≢◌, List, subst, arith}
use Rattle.kr_order.specs.declared.ids.EventId.{EventId}
use Rattle.script_lang.specs.Event.{ArePairs, IsAskedPair, asked_words}
use Rattle.script_lang.specs.Reading.{Spells}
use Rattle.script_lang.proofs.PairLemmas.{asked_once}
use Rattle.script_lang.proofs.KindLemmas.{no_pairs_alone}
use Rattle.script_lang.proofs.ChainLemmas.{query_without_least, query_without_pairs}
use Rattle.script_lang.proofs.chain.query_of.Goals as goal

pub returns-in_default-count_word : goal.returns-in_default-count_word
returns-in_default-count_word c =
    query_without_least c.args.above c.args.words.now c.in-Some.node c.in-Some.words.now c.in-Some.ensures.some c.in_default-count_word.ensures.none

pub pairs_of-requires-clause-one_way : goal.pairs_of-requires-clause-one_way
pairs_of-requires-clause-one_way c = asked_once

pub returns-in_default-2 : goal.returns-in_default-2
returns-in_default-2 c =
    let none : (pairs : List (EventId × EventId)) → ArePairs IsAskedPair pairs → c.in-Some-count_word.words.now ≢ asked_words pairs =
    subst (Spells asked_words (ArePairs IsAskedPair) c.in-Some-count_word.words.now) c.in_default-2.is c.in_ok-pairs.ensures in
    query_without_pairs c.args.above c.args.words.now c.in-Some.node c.in-Some.words.now c.in-Some-count_word.least c.in-Some-count_word.words.now
    (omega arith) c.in-Some.ensures.some c.in-Some-count_word.ensures.some (λ pairs fit. none pairs fit.pairs_fit)

pub returns-then-len-eq0 : goal.returns-then-len-eq0
returns-then-len-eq0 c =
    let read : ArePairs IsAskedPair c.in-Some-2.pairs × (c.in-Some-count_word.words.now ≡ asked_words c.in-Some-2.pairs) =
    subst (Spells asked_words (ArePairs IsAskedPair) c.in-Some-count_word.words.now) c.in-Some-2.is c.in_ok-pairs.ensures in
    query_without_pairs c.args.above c.args.words.now c.in-Some.node c.in-Some.words.now c.in-Some-count_word.least c.in-Some-count_word.words.now
    (omega arith) c.in-Some.ensures.some c.in-Some-count_word.ensures.some
    (λ pairs fit. no_pairs_alone c.in-Some-count_word.words.now c.in-Some-2.pairs read.0 read.1 (omega (arith, c.len.ensures.value, c.if-len-eq0.true)) pairs fit.some fit.pairs_fit)
