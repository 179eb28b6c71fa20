use Rattle.std.proofs.Common.{◌≡◌, ◌∷◌, [], ◌++◌, sym, ap, ◌∙◌, subst, arith}
use Rattle.live_service.specs.Lawful.{own_call}
use Rattle.live_service.specs.Calls.{HasCalled}
use Rattle.live_service.proofs.CallLemmas.{called_more, own_call-own}
use Rattle.live_service.proofs.run.Caller.call.Goals as goal

pub returns-clause-ok : goal.returns-clause-ok
returns-clause-ok g c = λ calls behind.
    let old = c.args.self.now in
    let call = c.args.call.now in
    let new = c.answer.new.pass in
    let told = c.in_ok-told.told in
    let same : call.0.0 ≡ old.pass.client.0 = grind (arith, c.if-call-client.false, c.client.ensures) in
    let more : HasCalled new (calls ++ call.1 ∷ []) (old.answers ++ told ∷ []) = called_more old.pass new calls old.answers call.1 told behind c.in_ok-told.ensures.ok in
    subst (HasCalled new (calls ++ own_call old.pass.client call)) (sym c.in_ok-push.ensures.ok) (subst (λ l. HasCalled new (calls ++ l) (old.answers ++ told ∷ [])) (sym (own_call-own old.pass.client call same)) more)
