use Rattle.std.proofs.Common.{ap, length, arith, length-drop}
use Rattle.cluster_parts.proofs.lines.put_step.Goals as goal

pub put_packets-requires : goal.put_packets-requires
put_packets-requires c =
    let bag = c.args.parts.now.bag in
    omega (arith, ap length c.fresh.ensures, length-drop bag.before bag.packets, c.before.before-2.ensures.value, c.before.before-2.ensures.within, c.before.before-2.ensures.few)
