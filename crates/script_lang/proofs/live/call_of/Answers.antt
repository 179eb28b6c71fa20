use Rattle.std.proofs.Common.{◌≡◌, ◌≢◌, ℕ, List, subst}
use Rattle.std.specs.Fmt.{decimal}
use Rattle.script_lang.specs.Number.{IsFromOneTo}
use Rattle.script_lang.specs.Reading.{Spells, ReadsWord}
use Rattle.script_lang.specs.Live.{IsCallOf, live_words}
use Rattle.script_lang.specs.declared.live.LiveCall.{LiveCall}
use Rattle.script_lang.proofs.LiveLemmas.{call_without_client, call_without_words}
use Rattle.script_lang.proofs.live.call_of.Goals as goal

pub returns-in_default : goal.returns-in_default
returns-in_default c =
    call_without_client c.args.clients c.args.text.now c.split_word.result.0.now c.split_word.result.1.now c.split_word.ensures (subst (λ most. (n : ℕ) (after : List ℕ) → ReadsWord decimal (IsFromOneTo most) c.split_word.result.1.now n after → ⊥) c.from.ensures c.in_default.ensures.none)

pub returns-in_default-2 : goal.returns-in_default-2
returns-in_default-2 c =
    let none : (call : LiveCall) → IsCallOf c.split_word.result.0.now call → c.in-Some.words.now ≢ live_words call = subst (Spells live_words (IsCallOf c.split_word.result.0.now) c.in-Some.words.now) c.in_default-2.is c.in_ok-call.ensures in
    call_without_words c.args.clients c.args.text.now c.split_word.result.0.now c.split_word.result.1.now c.in-Some.client c.in-Some.words.now c.requires.high c.split_word.ensures (subst (λ most. ReadsWord decimal (IsFromOneTo most) c.split_word.result.1.now c.in-Some.client c.in-Some.words.now) c.from.ensures c.in-Some.ensures.some) none
