use Rattle.kr_protocol.specs.Manager.{announces}
use Rattle.cluster_sim.proofs.FitLemmas.{sent_fit}
use Rattle.cluster_sim.proofs.step.views.tell.Goals as goal

pub send_all-requires : goal.send_all-requires
send_all-requires c =
    sent_fit c.args.parts.now.bag.packets (announces c.args.parts.now.manager.current) c.in_ok-packets.packets c.in_ok-packets.ensures c.requires.fit
