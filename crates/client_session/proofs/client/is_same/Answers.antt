use Rattle.std.proofs.Common.{◌≡◌, ◌∙◌, sym}
use Rattle.std.proofs.lemmas.Bool.{OnTrue_from}
use Rattle.client_session.proofs.SameLemmas.{one_chain}
use Rattle.client_session.proofs.client.is_same.Goals as goal

pub returns : goal.returns
returns c = OnTrue_from c.eq.result (c.args.chain.now ≡ c.args.other.now) (λ is. one_chain c.args.chain.now c.args.other.now (sym c.eq.ensures ∙ is))
