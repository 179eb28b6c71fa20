use Rattle.std.proofs.lemmas.List.Elements.{All-weaker}
use Rattle.script_lang.specs.Live.{IsCalled}
use Rattle.live_service.specs.Lawful.{IsByOneOf}
use Rattle.live_service.proofs.laws.plans_can_be_run.Goals as goal

pub returns-clause-each : goal.returns-clause-each
returns-clause-each c = λ plan fit. All-weaker (IsCalled plan.clients) (IsByOneOf plan.clients) (λ call is. is.client_fits) plan.calls fit.each
