use Rattle.std.proofs.Common.{◌≡◌, ◌≢◌, ◌↔◌, Bool, false, IsTrue, sym, ◌∙◌, subst}
use Rattle.std.specs.Prelude.{codes}
use Rattle.std.proofs.lemmas.Bool.{false≢true}
use Rattle.kr_order.specs.declared.ids.ClientId.{ClientId}
use Rattle.script_lang.specs.declared.live.LiveCall.{LiveCall}
use Rattle.script_lang.specs.declared.live.LiveCall.TheVariants.{Command as Calls}
use Rattle.script_lang.specs.Reading.{Spells}
use Rattle.script_lang.specs.Live.{IsCalled, live_text}
use Rattle.script_lang.proofs.ChainLemmas.{no_command_line, no_live_query}
use Rattle.script_lang.proofs.chain.line_of.Goals as goal

not_so : (b : Bool) (X : Type 0) → (IsTrue b ↔ X) → b ≡ false → X → ⊥
not_so b X both is x = false≢true (sym is ∙ both.1 x)

pub returns-in_default-2 : goal.returns-in_default-2
returns-in_default-2 c =
    let none : (call : ClientId × LiveCall) → IsCalled 16 call → c.args.text.now ≢ live_text call =
    subst (Spells live_text (IsCalled 16) c.args.text.now) c.in_default-2.is c.in_ok-client.ensures in
    no_command_line c.args.above c.args.text.now c.split_word.result.0.now c.split_word.result.1.now c.split_word.ensures
    (not_so c.is.result (c.split_word.result.0.now ≡ codes "query") c.is.ensures c.if-is.false) (λ client command fit. none (client, Calls command) fit)

pub returns : goal.returns
returns c =
    let read : IsCalled 16 (c.in-Some-2.client, c.in-Some-2.call) × (c.args.text.now ≡ live_text (c.in-Some-2.client, c.in-Some-2.call)) =
    subst (Spells live_text (IsCalled 16) c.args.text.now) c.in-Some-2.is c.in_ok-client.ensures in
    absurd (no_live_query c.args.text.now c.split_word.result.0.now c.split_word.result.1.now c.in-Some-2.client c.in-Some-2.call c.in-Query.field-0
    c.split_word.ensures (not_so c.is.result (c.split_word.result.0.now ≡ codes "query") c.is.ensures c.if-is.false) c.in-Query.is read.1)
