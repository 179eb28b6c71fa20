use Rattle.std.proofs.Common.{inr}
use Rattle.std.proofs.lemmas.Result.{err_from_is_err_and}
use Rattle.kr_wire.specs.Reading.{items_at}
use Rattle.kr_wire.proofs.ItemLemmas.{goes_on, breaks, taken_by, is_done}
use Rattle.kr_wire.proofs.items.items_at.Goals as goal

pub returns-in_err-item : goal.returns-in_err-item
returns-in_err-item g c =
    let p = err_from_is_err_and c.from_residual.result c.from_residual.ensures.1 in
    rw (p.1, p.2) (breaks g.X.Spelt.reading g.X.Spelt.taking c.in_err-item.field-0.0 c.loop.items.items c.args.count c.loop.counter c.args.bytes.now c.loop.rest.now (items_at g.X.Spelt.reading c.args.count c.args.bytes.now) c.loop-test.true c.in_err-item.ensures c.loop.invariant.begins c.loop.invariant.so_far)

pub loop-preserved : goal.loop-preserved
loop-preserved g c =
    record {
      so_far = rw c.in_ok-push.ensures.items (goes_on g.X.Spelt.reading c.loop.items.items c.args.count c.loop.counter c.loop.rest.now c.in_ok-item.item c.in_ok-item.after.now (items_at g.X.Spelt.reading c.args.count c.args.bytes.now) c.loop-test.true c.in_ok-item.ensures c.loop.invariant.so_far);
      begins = inr (taken_by g.X.Spelt.reading g.X.Spelt.taking c.args.count c.loop.counter c.args.bytes.now c.loop.rest.now c.in_ok-item.item c.in_ok-item.after.now c.loop-test.true c.in_ok-item.ensures c.loop.invariant.begins);
    }

pub returns-in_err-push : goal.returns-in_err-push
returns-in_err-push g c =
    let p = err_from_is_err_and c.from_residual-in_err-push.result c.from_residual-in_err-push.ensures.1 in
    rw (p.1, p.2) (taken_by g.X.Spelt.reading g.X.Spelt.taking c.args.count c.loop.counter c.args.bytes.now c.loop.rest.now c.in_ok-item.item c.in_ok-item.after.now c.loop-test.true c.in_ok-item.ensures c.loop.invariant.begins)

pub returns : goal.returns
returns g c = is_done g.X.Spelt.reading c.loop.items.items c.args.count c.loop.counter c.loop.rest.now (items_at g.X.Spelt.reading c.args.count c.args.bytes.now) c.loop-test.false c.loop.invariant.so_far
