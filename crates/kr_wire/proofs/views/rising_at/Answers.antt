use Rattle.std.proofs.Common.{inr, sym, ◌∙◌, ap}
use Rattle.std.proofs.lemmas.Result.{err_from_is_err_and}
use Rattle.kr_wire.specs.Valid.{last_id}
use Rattle.kr_wire.specs.Reading.{rising_at, server_of, above}
use Rattle.kr_wire.specs.Taking.{never, items_take}
use Rattle.std.specs.Int.{w32}
use Rattle.kr_wire.proofs.ItemLemmas.{rises_on, rises_not, taken_by_id, has_risen, last_id-push}
use Rattle.kr_wire.proofs.views.rising_at.Goals as goal

pub returns-in_err-id-clause-value : goal.returns-in_err-id-clause-value
returns-in_err-id-clause-value c =
    let p = err_from_is_err_and c.from_residual.result c.from_residual.ensures.1 in
    rw (p.1, p.2) (rises_not (items_take (above w32 0) never c.args.count c.args.bytes.now) c.in_err-id.field-0.0 c.loop.ids.items c.args.count c.loop.counter c.loop.last c.loop.rest.now (rising_at c.args.count 0 c.args.bytes.now) c.loop-test.true c.in_err-id.ensures c.loop.invariant.so_far)

pub loop-preserved : goal.loop-preserved
loop-preserved c =
    let id = c.in_ok-id.id in
    record {
      so_far = rw c.in_ok-push.ensures.items (rises_on c.loop.ids.items c.args.count c.loop.counter c.loop.last c.loop.rest.now id c.in_ok-id.after.now (rising_at c.args.count 0 c.args.bytes.now) c.loop-test.true c.in_ok-id.ensures c.loop.invariant.so_far);
      begins = inr (taken_by_id c.args.count c.loop.counter c.loop.last c.args.bytes.now c.loop.rest.now id c.in_ok-id.after.now c.loop-test.true c.in_ok-id.ensures c.loop.invariant.begins);
      last = sym (ap (last_id 0) c.in_ok-push.ensures.items ∙ last_id-push 0 c.loop.ids.items (server_of id));
    }

pub returns-in_err-push-clause-value : goal.returns-in_err-push-clause-value
returns-in_err-push-clause-value c =
    let p = err_from_is_err_and c.from_residual-in_err-push.result c.from_residual-in_err-push.ensures.1 in
    rw (p.1, p.2) (taken_by_id c.args.count c.loop.counter c.loop.last c.args.bytes.now c.loop.rest.now c.in_ok-id.id c.in_ok-id.after.now c.loop-test.true c.in_ok-id.ensures c.loop.invariant.begins)

pub returns-clause-value : goal.returns-clause-value
returns-clause-value c = has_risen c.loop.ids.items c.args.count c.loop.counter c.loop.last c.loop.rest.now (rising_at c.args.count 0 c.args.bytes.now) c.loop-test.false c.loop.invariant.so_far
