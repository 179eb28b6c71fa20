use Rattle.std.proofs.Common.{Vec, Global, ℕ, length, sym, subst}
use Rattle.std.specs.Prelude.{option_map}
use Rattle.clock_import.specs.Links.{AreLinks}
use Rattle.clock_import.specs.Walk.{Orders}
use Rattle.clock_import.proofs.BringLemmas.{brought_at, closed_at}
use Rattle.clock_import.proofs.bring.bring.Goals as goal

pub returns-in-Some : goal.returns-in-Some
returns-in-Some c =
    let ordered = subst (λ o. Orders c.as_slice.result.now (length c.as_slice-lines.result.now) (option_map (λ (v : Vec ℕ Global). v.items) o)) c.in-Some.is c.in_ok-order.ensures in
    brought_at c.args.log.lines.items c.as_slice-lines.result.now c.as_slice.result.now c.in-Some.order.items (record { processes = c.args.log.processes; events = c.in_ok-events-in-Some.events; pairs = c.in_ok-pairs-in-Some.pairs }) c.as_slice-lines.ensures.value c.requires.log (subst (AreLinks c.as_slice-lines.result.now) (sym c.as_slice.ensures.value) c.in_ok-links.ensures) ordered c.in_ok-events-in-Some.ensures c.in_ok-pairs-in-Some.ensures

pub returns : goal.returns
returns c =
    closed_at c.args.log.processes c.args.log.lines.items c.as_slice-lines.result.now c.as_slice-in-None.result.now c.in_ok-event-in-None.event c.as_slice-lines.ensures.value c.requires.log (subst (AreLinks c.as_slice-lines.result.now) (sym c.as_slice-in-None.ensures.value) c.in_ok-links.ensures) c.in_ok-event-in-None.ensures.0 c.in_ok-event-in-None.ensures.1
