use Rattle.std.proofs.Common.{rules, ap, ◌∙◌, Err}
use Rattle.script_lang.proofs.WordLemmas.{word_read, no_word, no_room}
use Rattle.script_lang.proofs.pairs.pairs_of.Goals as goal

pub returns-in_default : goal.returns-in_default
returns-in_default g c =
    no_word g.P.Spelt.word g.P.Spelt.fits c.requires.one_way c.args.text.now c.loop-rest.pairs c.loop-rest.rest.now c.loop-rest.invariant (search rules) c.in_default.ensures.none

pub loop-rest-preserved : goal.loop-rest-preserved
loop-rest-preserved g c =
    rw c.in-Ok.ensures.ok (word_read g.P.Spelt.word g.P.Spelt.fits c.args.text.now c.loop-rest.pairs c.loop-rest.rest.now c.in-Some.pair c.in-Some.more.now c.loop-rest.invariant c.in-Some.ensures.some (λ full. let stopped = c.in-Ok.ensures.full.1 full in cc))

pub returns-in-Err-Full : goal.returns-in-Err-Full
returns-in-Err-Full g c =
    no_room g.P.Spelt.word g.P.Spelt.fits c.requires.one_way c.args.text.now c.loop-rest.pairs c.loop-rest.rest.now c.loop-rest.invariant (search rules) (c.push.ensures.full.0 (c.in-Err-Full.is ∙ ap Err c.in-Err-Full.field-0-is))
