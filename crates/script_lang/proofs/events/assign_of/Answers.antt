use Rattle.std.proofs.Common.{subst}
use Rattle.kr_order.specs.Text.{pair_words}
use Rattle.script_lang.specs.Event.{ArePairs, IsPair}
use Rattle.script_lang.specs.Reading.{Spells}
use Rattle.script_lang.proofs.PairLemmas.{pairs_once}
use Rattle.script_lang.proofs.KindLemmas.{assign_without_number, assign_without_batch}
use Rattle.script_lang.proofs.events.assign_of.Goals as goal

pub returns-in_default : goal.returns-in_default
returns-in_default c = assign_without_number c.args.words.now c.in_default.ensures.none

pub returns-in_default-2 : goal.returns-in_default-2
returns-in_default-2 c =
    assign_without_batch c.args.words.now c.in-Some.client c.in-Some.rest.now c.in-Some.ensures.some (subst (Spells pair_words (ArePairs IsPair) c.in-Some.rest.now) c.in_default-2.is c.in_ok-batch.ensures)

pub pairs_of-requires-clause-one_way : goal.pairs_of-requires-clause-one_way
pairs_of-requires-clause-one_way c = pairs_once
