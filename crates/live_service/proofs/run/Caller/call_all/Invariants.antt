use Rattle.std.proofs.Common.{◌≡◌, ◌≤◌, take}
use Rattle.live_service.specs.Lawful.{calls_of}
use Rattle.live_service.specs.Runs.{IsBehind, IsCaller}
use Rattle.live_service.proofs.run.Caller.call_all.Given as goal

abbrev pub invariant-loop-call : goal.invariant-loop-call
invariant-loop-call g l = record {
  caller : IsCaller l.service.id l.self;
  number : l.self.number ≤ l.call-index;
  client : l.self.pass.client ≡ l.initial.self.pass.client;
  behind : IsBehind (calls_of l.initial.self.pass.client (take l.call-index l.call-items)) l.self;
}
