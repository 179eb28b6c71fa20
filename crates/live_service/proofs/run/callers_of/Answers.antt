use Rattle.std.proofs.Common.{rules, ◌≡◌, ◌+◌, length, sym, ap, ◌∙◌, subst, arith}
use Rattle.std.specs.Prelude.{All}
use Rattle.std.proofs.lemmas.List.Elements.{All-push}
use Rattle.live_service.specs.Views.{ServiceId}
use Rattle.live_service.specs.Runs.{AreNumbered, IsFresh}
use Rattle.live_service.proofs.RunLemmas.{numbered_push}
use Rattle.live_service.proofs.run.callers_of.Goals as goal

pub loop-pass-preserved : goal.loop-pass-preserved
loop-pass-preserved c =
    let i = c.loop-pass.invariant in
    let old = c.loop-pass.room.items in
    let caller = c.caller_of.result in
    let number : caller.pass.client.0 ≡ 1 + length old = omega (arith, ap (λ k. k.0) c.caller_of.ensures.client, ap (λ p. p.client.0) c.in-Some.ensures.some, i.count) in
    let given : c.in-Some.pass.service ≡ c.loop-pass.passes.service = ap (λ p. p.service) c.in-Some.ensures.some in
    let same : c.take.new.self.service ≡ c.loop-pass.passes.service = ap (λ p. p.service) c.take.ensures.left in
    let id : ServiceId = c.loop-pass.passes.service in
    let next : IsFresh id caller = subst (λ s. IsFresh s caller) given c.caller_of.ensures.fresh in
    record {
      rest = search rules;
      count = search rules;
      room = search rules;
      fresh = subst (λ s. All (IsFresh s) c.push_reserved.new.self.items) (sym same)
          (subst (All (IsFresh id)) (sym c.push_reserved.ensures.items) (All-push (IsFresh id) old caller i.fresh next));
      numbered = subst (AreNumbered 1) (sym c.push_reserved.ensures.items) (numbered_push 1 old caller i.numbered number);
    }
