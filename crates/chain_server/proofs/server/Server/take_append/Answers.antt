use Rattle.std.proofs.Common.{◌≡◌, true, cond, ap, sym, ◌∙◌, subst}
use Rattle.kr_protocol.specs.Reaction.{ignored}
use Rattle.kr_protocol.specs.Server.{is_server, prev, missing, takes_entries}
use Rattle.chain_server.specs.Calls.{Does}
use Rattle.chain_server.proofs.HeedLemmas.{take_append-does}
use Rattle.chain_server.proofs.server.Server.take_append.Goals as goal

pub returns-clause-does : goal.returns-clause-does
returns-clause-does g c =
    let old = c.args.self.now in
    let from = c.args.from in
    let entries = missing old.server.log c.args.first c.args.entries.now in
    let before : c.prev.result ≡ prev old.server = c.prev.ensures in
    let test : c.is_server.result ≡ true = c.if-not-is_server.false in
    let said : is_server (prev old.server) from ≡ true = ap (λ server. is_server server from) (sym before) ∙ sym c.is_server.ensures ∙ test in
    subst (λ b. Does old (cond b (takes_entries old.server from entries) (ignored old.server)) c.pass_on.result c.pass_on.new.self) (sym said) (take_append-does old c.grow.new.self c.advance_at_tail.new.self from entries c.in_ok-taken.taken c.in_ok-effects.effects c.pass_on.result c.pass_on.new.self c.requires c.in_ok-taken.ensures.grown c.in_ok-taken.ensures.same c.in_ok-taken.ensures.count c.in_ok-effects.ensures c.pass_on.ensures)
