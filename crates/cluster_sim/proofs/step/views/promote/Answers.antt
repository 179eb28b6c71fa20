use Rattle.std.proofs.Common.{◌≡◌, sym, subst}
use Rattle.std.specs.Prelude.{IfSome}
use Rattle.kr_protocol.specs.Manager.{promotes}
use Rattle.kr_world.specs.Step.{joined_at_manager, manager_tells}
use Rattle.cluster_parts.specs.PartsStanding.{world_of}
use Rattle.cluster_sim.specs.Parts.{IsWhole}
use Rattle.cluster_sim.proofs.ViewLemmas.{may_of_some, member_whole, member_as, tells_fit}
use Rattle.cluster_sim.proofs.step.views.promote.Goals as goal

pub tell-requires-clause-whole : goal.tell-requires-clause-whole
tell-requires-clause-whole c =
    let parts = c.args.parts.now in
    let may = may_of_some parts.manager.current c.args.from c.args.joiner c.in_ok-joined.field-0 c.in-Some.field-0 c.in-Some.is c.in_ok-joined.ensures.none in
    let new : c.joined.new.self ≡ promotes parts.manager c.args.joiner = subst (λ view. IfSome view (λ v. c.joined.new.self ≡ promotes parts.manager c.args.joiner)) c.in-Some.is c.in_ok-joined.ensures.new in
    subst (λ m. IsWhole (record parts { manager = m })) (sym new) (member_whole parts c.args.from c.args.joiner c.requires.whole c.requires.said may)

pub tell-requires-clause-fit : goal.tell-requires-clause-fit
tell-requires-clause-fit c =
    let parts = c.args.parts.now in
    let may = may_of_some parts.manager.current c.args.from c.args.joiner c.in_ok-joined.field-0 c.in-Some.field-0 c.in-Some.is c.in_ok-joined.ensures.none in
    let new : c.joined.new.self ≡ promotes parts.manager c.args.joiner = subst (λ view. IfSome view (λ v. c.joined.new.self ≡ promotes parts.manager c.args.joiner)) c.in-Some.is c.in_ok-joined.ensures.new in
    let manager = c.joined.new.self in
    tells_fit (joined_at_manager (world_of parts) c.args.from c.args.joiner) (manager_tells (world_of (record parts { manager = manager })) manager) (member_as parts c.args.from c.args.joiner manager may new) c.requires.fit
