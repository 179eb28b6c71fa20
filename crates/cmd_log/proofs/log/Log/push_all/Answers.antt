use Rattle.std.proofs.Common.{◌≡◌, ◌++◌, ◌≤◌, ◌-◌, ◌^◌, length, ap, sym, ◌∙◌, subst, arith}
use Rattle.cmd_log.specs.Table.{IsTabled}
use Rattle.cmd_log.proofs.TableLemmas.{IsTabled-told}
use Rattle.cmd_log.proofs.log.Log.push_all.Goals as goal

pub invariant_of-self-2 : goal.invariant_of-self-2
invariant_of-self-2 c =
    let entries = c.args.entries.now in
    let inside = c.self.inside in
    let log = inside.entries.items in
    let room : length entries ≤ 2 ^ 58 - length log = omega arith in
    let items : c.append.new.self.items ≡ log ++ entries = c.in_ok-append.ensures.items ∙ ap (λ more. log ++ more) c.in_ok-copies.ensures in
    subst (λ all. IsTabled all c.tell_all.new.table) (sym items) (IsTabled-told log entries inside.highest c.reserve.new.self c.tell_all.new.table c.self.invariant c.reserve.ensures.entries.2 c.tell_all.ensures room)
