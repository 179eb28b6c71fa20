use Rattle.std.proofs.Common.{◌≡◌}
use Rattle.kr_order.specs.Prefix.{IsPrefix}
use Rattle.live_service.proofs.calls.ask.Given as goal

abbrev pub invariant-loop : goal.invariant-loop
invariant-loop g l = record {
  known : IsPrefix l.initial.pass.known l.pass.known;
  rest : l.pass ≡ record l.initial.pass { known = l.pass.known; shuts = l.pass.shuts };
}
