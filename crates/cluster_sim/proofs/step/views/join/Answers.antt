use Rattle.std.proofs.Common.{ap, ◌∙◌, ◌++◌, ◌∷◌, [], false, subst}
use Rattle.std.specs.Prelude.{IfOk}
use Rattle.kr_protocol.specs.Server.{newcomer}
use Rattle.kr_world.specs.Step.{joins, manager_tells}
use Rattle.cluster_parts.specs.BagStanding.{BagStanding}
use Rattle.cluster_parts.specs.PartsStanding.{world_of}
use Rattle.cluster_sim.specs.Parts.{Makes}
use Rattle.cluster_sim.proofs.ViewLemmas.{HasAdded, added_whole, added_as, tells_fit, tells_so}
use Rattle.cluster_sim.proofs.step.views.join.Goals as goal

pub tell-requires-clause-whole : goal.tell-requires-clause-whole
tell-requires-clause-whole c =
    let on = c.in_ok-add.ensures in
    let parts = c.args.parts.now in
    let added : HasAdded parts c.add.new.parts = record {
      manager = on.manager ∙ c.in_ok-id.ensures.new;
      nodes = on.servers ∙ ap (λ id. parts.servers.items ++ record { server = newcomer id; failed = false } ∷ []) c.in_ok-id.ensures.id;
      marks = on.stopped;
      callers = on.clients;
      bag = on.bag;
      journal = on.journal;
    } in
    added_whole parts c.add.new.parts c.requires.whole c.requires.free added

pub tell-requires-clause-fit : goal.tell-requires-clause-fit
tell-requires-clause-fit c =
    let on = c.in_ok-add.ensures in
    let parts = c.args.parts.now in
    let added : HasAdded parts c.add.new.parts = record {
      manager = on.manager ∙ c.in_ok-id.ensures.new;
      nodes = on.servers ∙ ap (λ id. parts.servers.items ++ record { server = newcomer id; failed = false } ∷ []) c.in_ok-id.ensures.id;
      marks = on.stopped;
      callers = on.clients;
      bag = on.bag;
      journal = on.journal;
    } in
    let made = c.add.new.parts in
    tells_fit (joins (world_of parts)) (manager_tells (world_of made) made.manager) (added_as parts made added) c.requires.fit

pub returns : goal.returns
returns c =
    let on = c.in_ok-add.ensures in
    let parts = c.args.parts.now in
    let added : HasAdded parts c.add.new.parts = record {
      manager = on.manager ∙ c.in_ok-id.ensures.new;
      nodes = on.servers ∙ ap (λ id. parts.servers.items ++ record { server = newcomer id; failed = false } ∷ []) c.in_ok-id.ensures.id;
      marks = on.stopped;
      callers = on.clients;
      bag = on.bag;
      journal = on.journal;
    } in
    let made = c.add.new.parts in
    let since : IfOk c.tell.result (Makes (manager_tells (world_of made) made.manager) parts.bag.before c.tell.new.parts) = subst (λ (b : BagStanding). IfOk c.tell.result (Makes (manager_tells (world_of made) made.manager) b.before c.tell.new.parts)) on.bag c.tell.ensures in
    tells_so parts.bag.before c.tell.new.parts (joins (world_of parts)) (manager_tells (world_of made) made.manager) c.tell.result (added_as parts made added) since
