use Rattle.std.proofs.Common.{◌≡◌, [], ◌∷◌, ◌++◌, map, sym, ap, ◌∙◌, subst}
use Rattle.std.specs.Prelude.{All}
use Rattle.std.proofs.lemmas.Bool.{or_parts}
use Rattle.std.proofs.lemmas.List.{map-append}
use Rattle.std.proofs.lemmas.List.Elements.{All-push}
use Rattle.live_service.specs.declared.run.Caller.{Caller}
use Rattle.live_service.specs.Runs.{HasEnough}
use Rattle.live_service.proofs.run.parted.Goals as goal

pub loop-caller-preserved : goal.loop-caller-preserved
loop-caller-preserved c =
    let i = c.loop-caller.invariant in
    let caller = c.in-Some.caller in
    let done = c.loop-caller.yielded in
    let pushed = c.push_reserved-in-loop-caller in
    record {
      passes = c.push_reserved.ensures.items ∙ ap (λ passes. passes ++ caller.pass ∷ []) i.passes
          ∙ sym (map-append (λ (one : Caller). one.pass) done (caller ∷ []));
      room = c.push_reserved.ensures.capacity ∙ i.room;
      calls = pushed.ensures.items ∙ ap (λ calls. calls ++ caller.answers ∷ []) i.calls
          ∙ sym (map-append (λ (one : Caller). one.answers) done (caller ∷ []));
      room_for_calls = pushed.ensures.capacity ∙ i.room_for_calls;
      enough = λ none.
          let both = or_parts c.loop-caller.failed caller.failed none in
          All-push HasEnough done caller (i.enough both.0) both.1;
    }
