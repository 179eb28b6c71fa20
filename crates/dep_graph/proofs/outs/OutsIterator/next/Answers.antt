use Rattle.std.proofs.Common.{length, ap, sym, ◌∙◌, subst, arith}
use Rattle.std.specs.Prelude.{reverse}
use Rattle.dep_graph.specs.Links.{chain, IsBelow}
use Rattle.dep_graph.proofs.ChainLemmas.{chain-at, chain-gap, chain_in-none}
use Rattle.dep_graph.proofs.outs.OutsIterator.next.Goals as goal

pub returns-in-None-clause-steps : goal.returns-in-None-clause-steps
returns-in-None-clause-steps c =
    let nothing = sym c.self.view_is ∙ ap (chain c.self.inside.links.now) c.in-None.is ∙ chain_in-none (reverse c.self.inside.links.now) in
    (nothing, nothing)

pub invariant_of-self : goal.invariant_of-self
invariant_of-self c =
    let links = c.self.inside.links.now in
    let below = subst (IsBelow (length links)) c.in-Some.is c.self.invariant.1 in
    (c.self.invariant.0, (chain-at links c.in-Some.at c.in-Some-links.link c.self.invariant.0 below c.in-Some-links.is).below)

pub returns-in-Some-links-clause-steps : goal.returns-in-Some-links-clause-steps
returns-in-Some-links-clause-steps c =
    let links = c.self.inside.links.now in
    let below = subst (IsBelow (length links)) c.in-Some.is c.self.invariant.1 in
    sym c.self.view_is ∙ ap (chain links) c.in-Some.is ∙ (chain-at links c.in-Some.at c.in-Some-links.link c.self.invariant.0 below c.in-Some-links.is).over

pub returns-in-Some-links-clause-goes : goal.returns-in-Some-links-clause-goes
returns-in-Some-links-clause-goes c =
    record { on = λ _. (tt, tt, omega (arith, ap length (returns-in-Some-links-clause-steps c))); keeps = tt; rests = λ _. tt }

pub returns-in-None-links-clause-steps : goal.returns-in-None-links-clause-steps
returns-in-None-links-clause-steps c =
    let links = c.self.inside.links.now in
    let below = subst (IsBelow (length links)) c.in-Some.is c.self.invariant.1 in
    let nothing = sym c.self.view_is ∙ ap (chain links) c.in-Some.is ∙ chain-gap links c.in-Some.at below c.in-None-links.is in
    (nothing, nothing)
