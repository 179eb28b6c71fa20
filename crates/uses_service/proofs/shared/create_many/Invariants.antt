use Rattle.std.proofs.Common.{◌≡◌, ◌+◌}
use Rattle.uses_service.proofs.shared.create_many.Given as goal

abbrev pub invariant-loop-done : goal.invariant-loop-done
invariant-loop-done g l = record {
  client : l.pass.client ≡ l.fn.pass.client;
  service : l.pass.service ≡ l.fn.pass.service;
  made : l.pass.made + 1 ≡ l.fn.pass.made + l.done;
}
