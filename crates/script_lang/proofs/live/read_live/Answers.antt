use Rattle.std.proofs.Common.{rules}
use Rattle.script_lang.proofs.LiveLineLemmas.{read_more, line_read, line_not_read, no_line, stops}
use Rattle.script_lang.proofs.live.read_live.Goals as goal

pub loop-rest-preserved : goal.loop-rest-preserved
loop-rest-preserved c =
    rw c.in_ok-push.ensures.ok (read_more _ _ _ _ _ _ c.loop-rest.invariant (line_read _ c.loop-rest.rest.now c.in-Some-split_line.text.now c.in-Some-split_line.more.now c.in_ok-call.field-0 c.in-Some-2.call c.in-Some-split_line.ensures c.in-Some-2.is c.in_ok-call.ensures))

pub returns-in_default-split_line : goal.returns-in_default-split_line
returns-in_default-split_line c =
    stops _ _ _ c.loop-rest.rest.now _ c.loop-rest.invariant (search rules) (no_line _ c.loop-rest.rest.now c.in_default-split_line.ensures) (search rules)

pub returns-in_default-2 : goal.returns-in_default-2
returns-in_default-2 c =
    stops _ _ _ c.loop-rest.rest.now _ c.loop-rest.invariant (search rules) (line_not_read _ c.loop-rest.rest.now c.in-Some-split_line.text.now c.in-Some-split_line.more.now c.in_ok-call.field-0 c.loop-rest.invariant.clients_fit c.in-Some-split_line.ensures c.in_default-2.is c.in_ok-call.ensures) (search rules)
