use Rattle.std.proofs.Common.{sym}
use Rattle.client_session.proofs.AnswerLemmas.{unequal}
use Rattle.client_session.proofs.answers.may_answer_all.Goals as goal

pub returns-then-pairs-answers : goal.returns-then-pairs-answers
returns-then-pairs-answers c = sym (unequal c.args.part c.args.pairs.now c.args.answers.now c.if-pairs-answers.true)
