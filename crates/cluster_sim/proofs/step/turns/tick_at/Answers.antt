use Rattle.std.proofs.Common.{◌≡◌, ◌-◌, ◌<◌, length, get_or, refl, sym, ap, ◌∙◌, subst, arith}
use Rattle.std.specs.Prelude.{slice_set}
use Rattle.std.specs.declared.vec.Vec.{Vec}
use Rattle.std.specs.declared.alloc.Global.{Global}
use Rattle.std.proofs.lemmas.Option.{slice_get_read}
use Rattle.chain_server.specs.ServerStanding.{ServerStanding}
use Rattle.kr_world.specs.World.{server_at}
use Rattle.kr_world.specs.Step.{ticks_at}
use Rattle.cluster_parts.specs.PartsStanding.{world_of, noted}
use Rattle.cluster_sim.specs.Parts.{Makes}
use Rattle.cluster_sim.proofs.PartsLemmas.{IsCarriedOut, server_ticked}
use Rattle.cluster_sim.proofs.FitLemmas.{tick_fits}
use Rattle.cluster_sim.proofs.step.turns.tick_at.Goals as goal

pub carry_out-requires : goal.carry_out-requires
carry_out-requires c =
    let parts = c.args.parts.now in
    let nodes = parts.servers.items in
    let i = c.args.server.0 - 1 in
    let node = c.index_mut-node.result.now in
    let at : c.index_of-i.result ≡ i = omega (arith, c.index_of-i.ensures, c.from.ensures) in
    let within : i < length nodes = omega (arith, at) in
    let there = slice_get_read nodes (length nodes) i node refl within (c.index_mut-node.ensures.value ∙ ap (λ n. get_or nodes n node) at) in
    tick_fits parts c.args.server node c.tick.new.self c.in_ok-effects.effects there c.in_ok-effects.ensures c.requires.fit

pub returns : goal.returns
returns c =
    let parts = c.args.parts.now in
    let made = c.carry_out.new.parts in
    let nodes = c.args.parts.now.servers.items in
    let i = c.args.server.0 - 1 in
    let node = c.index_mut-node.result.now in
    let new = c.tick.new.self in
    let effects = c.in_ok-effects.effects in
    let on = c.in_ok-carry_out.ensures in
    let at : c.index_of-i.result ≡ i = omega (arith, c.index_of-i.ensures, c.from.ensures) in
    let within : i < length nodes = omega (arith, at) in
    let changed : made.servers.items ≡ slice_set nodes i new = ap (λ (v : Vec ServerStanding Global). v.items) on.servers ∙ ap (λ n. slice_set nodes n new) at in
    let carried : IsCarriedOut parts made c.args.server node new effects = record {
      there = slice_get_read nodes (length nodes) i node refl within (c.index_mut-node.ensures.value ∙ ap (λ n. get_or nodes n node) at);
      manager = on.manager;
      marks = on.stopped;
      nodes = changed;
      callers = on.clients;
      bag = on.bag;
      journal = on.journal ∙ ap (λ n. noted parts.journal n effects.committed) c.done-before.ensures;
    } in
    let ticked = server_ticked parts made c.args.server node new effects c.requires.whole c.requires.free carried c.in_ok-effects.ensures in
    subst (λ noting. Makes (ticks_at (world_of parts) c.args.server (server_at (world_of parts) c.args.server)) parts.bag.before made noting) (sym c.nothing-2.ensures) ticked
