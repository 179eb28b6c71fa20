use Rattle.std.proofs.Common.{inr, arith}
use Rattle.std.proofs.lemmas.List.{length_push}
use Rattle.std.proofs.lemmas.Result.{err_from_is_err_and}
use Rattle.kr_wire.specs.Reading.{items_at}
use Rattle.kr_wire.proofs.ItemLemmas.{goes_on, breaks, taken_by, is_done}
use Rattle.kr_wire.proofs.items.capped_items_at.Goals as goal

pub returns-in_err-item : goal.returns-in_err-item
returns-in_err-item g c =
    let p = err_from_is_err_and c.from_residual.result c.from_residual.ensures.1 in
    rw (p.1, p.2) (breaks g.X.Spelt.reading g.X.Spelt.taking c.in_err-item.field-0.0 c.loop.items c.args.count c.loop.counter c.args.bytes.now c.loop.rest.now (items_at g.X.Spelt.reading c.args.count c.args.bytes.now) c.loop-test.true c.in_err-item.ensures c.loop.invariant.begins c.loop.invariant.so_far)

pub loop-preserved : goal.loop-preserved
loop-preserved g c =
    record {
      so_far = rw c.in-Ok.ensures.ok (goes_on g.X.Spelt.reading c.loop.items c.args.count c.loop.counter c.loop.rest.now c.in_ok-item.item c.in_ok-item.after.now (items_at g.X.Spelt.reading c.args.count c.args.bytes.now) c.loop-test.true c.in_ok-item.ensures c.loop.invariant.so_far);
      begins = inr (taken_by g.X.Spelt.reading g.X.Spelt.taking c.args.count c.loop.counter c.args.bytes.now c.loop.rest.now c.in_ok-item.item c.in_ok-item.after.now c.loop-test.true c.in_ok-item.ensures c.loop.invariant.begins);
      room = rw c.in-Ok.ensures.ok (omega (arith, length_push c.loop.items c.in_ok-item.item, c.loop.invariant.room));
    }

pub returns-in-Err-NoMemory : goal.returns-in-Err-NoMemory
returns-in-Err-NoMemory g c =
    taken_by g.X.Spelt.reading g.X.Spelt.taking c.args.count c.loop.counter c.args.bytes.now c.loop.rest.now c.in_ok-item.item c.in_ok-item.after.now c.loop-test.true c.in_ok-item.ensures c.loop.invariant.begins

pub returns : goal.returns
returns g c = is_done g.X.Spelt.reading c.loop.items c.args.count c.loop.counter c.loop.rest.now (items_at g.X.Spelt.reading c.args.count c.args.bytes.now) c.loop-test.false c.loop.invariant.so_far
