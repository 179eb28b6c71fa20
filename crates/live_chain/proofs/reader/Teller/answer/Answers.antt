use Rattle.std.proofs.Common.{◌≡◌, ◌∷◌, [], ◌++◌, sym, ap, ◌∙◌, subst, arith}
use Rattle.kr_order.specs.Prefix.{IsPrefix}
use Rattle.live_chain.specs.declared.reader.Teller.{Teller}
use Rattle.live_chain.specs.Tellers.{HasAnswered}
use Rattle.live_chain.proofs.ToldLemmas.{answered_more, own_query-own}
use Rattle.live_chain.proofs.reader.Teller.answer.Goals as goal

pub returns-clause-ok : goal.returns-clause-ok
returns-clause-ok g c = λ queries has.
    let old = c.args.self.now in
    let query = c.args.query.now in
    let told = c.in_ok-told.told in
    let waited = c.in_ok-wait_for.ensures.same in
    let asked = c.in_ok-told.ensures in
    let mine : query.node ≡ old.node = grind (arith, c.if-query-self.false) in
    let same : c.ask.new.self.told ≡ old.told = ap (λ (t : Teller). t.told) asked.same ∙ ap (λ (t : Teller). t.told) waited in
    let known : IsPrefix old.reader.list c.ask.new.self.reader.list =
    subst (λ l. IsPrefix l c.ask.new.self.reader.list) (ap (λ (t : Teller). t.reader.list) waited) asked.ok.known in
    let new : Teller = record c.ask.new.self { told = c.push.new.self } in
    let more : HasAnswered (queries ++ query ∷ []) new =
    answered_more old new queries query told has (c.in_ok-push.ensures.ok ∙ ap (λ l. l ++ told ∷ []) same) known asked.ok.least asked.ok.told_is in
    subst (λ l. HasAnswered (queries ++ l) new) (sym (own_query-own old.node query mine)) more
