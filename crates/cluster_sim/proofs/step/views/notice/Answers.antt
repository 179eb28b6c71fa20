use Rattle.std.proofs.Common.{◌≡◌, ◌-◌, sym, subst, arith}
use Rattle.kr_world.specs.World.{server_at}
use Rattle.kr_world.specs.Step.{notices, manager_tells}
use Rattle.cluster_parts.specs.PartsStanding.{world_of}
use Rattle.cluster_sim.specs.Parts.{IsWhole}
use Rattle.cluster_sim.proofs.ViewLemmas.{IsNoticed, noticed_of, removed_whole, noticed_as, tells_fit, tells_so}
use Rattle.cluster_sim.proofs.step.views.notice.Goals as goal

noticed : (c : goal.After-remove-arg-1) → IsNoticed c.args.parts.now c.id-id.result
noticed c =
    let at : c.index_of.result ≡ c.args.server.0 - 1 = omega (arith, c.index_of.ensures, c.from.ensures) in
    subst (IsNoticed c.args.parts.now) (sym c.id-id.ensures) (noticed_of c.args.parts.now c.args.server c.index_of.result c.index.result.now c.requires.whole at c.index.ensures c.requires.free)

pub remove-requires-clause-named : goal.remove-requires-clause-named
remove-requires-clause-named c = (noticed c).named

pub remove-requires-clause-others : goal.remove-requires-clause-others
remove-requires-clause-others c = (noticed c).others

pub tell-requires-clause-whole : goal.tell-requires-clause-whole
tell-requires-clause-whole c =
    let parts = c.args.parts.now in
    let at : c.index_of.result ≡ c.args.server.0 - 1 = omega (arith, c.index_of.ensures, c.from.ensures) in
    let its = subst (IsNoticed parts) (sym c.id-id.ensures) (noticed_of parts c.args.server c.index_of.result c.index.result.now c.requires.whole at c.index.ensures c.requires.free) in
    subst (λ m. IsWhole (record parts { manager = m })) (sym c.in_ok-remove.ensures) (removed_whole parts c.id-id.result c.requires.whole its)

pub tell-requires-clause-fit : goal.tell-requires-clause-fit
tell-requires-clause-fit c =
    let parts = c.args.parts.now in
    let w = world_of parts in
    let manager = c.remove.new.manager in
    let at : c.index_of.result ≡ c.args.server.0 - 1 = omega (arith, c.index_of.ensures, c.from.ensures) in
    tells_fit (notices w (server_at w c.args.server)) (manager_tells (world_of (record parts { manager = manager })) manager) (noticed_as parts c.args.server c.index_of.result c.index.result.now manager c.id-id.result at c.index.ensures c.requires.free c.id-id.ensures c.in_ok-remove.ensures) c.requires.fit

pub returns : goal.returns
returns c =
    let parts = c.args.parts.now in
    let w = world_of parts in
    let manager = c.remove.new.manager in
    let at : c.index_of.result ≡ c.args.server.0 - 1 = omega (arith, c.index_of.ensures, c.from.ensures) in
    tells_so parts.bag.before c.tell.new.parts (notices w (server_at w c.args.server)) (manager_tells (world_of (record parts { manager = manager })) manager) c.tell.result (noticed_as parts c.args.server c.index_of.result c.index.result.now manager c.id-id.result at c.index.ensures c.requires.free c.id-id.ensures c.in_ok-remove.ensures) c.tell.ensures
