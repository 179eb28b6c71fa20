use Rattle.std.proofs.Common.{◌≡◌, ℕ}
use Rattle.kr_order.specs.declared.batch.Kind.{Kind}
use Rattle.kr_order.specs.declared.batch.Kind.TheVariants.{Must, Prefer}
use Rattle.script_lang.proofs.PairLemmas.{no_pair_sign, sign_of}
use Rattle.script_lang.proofs.pairs.PairSpelt.in_front.Goals as goal

no_kind : (sign : ℕ) → (sign ≡ 33 → ⊥) → (sign ≡ 63 → ⊥) → (kind : Kind) → sign ≡ sign_of kind → ⊥
no_kind sign must prefer Must is = must is
no_kind sign must prefer Prefer is = prefer is

pub returns-else-sign-eq63-clause-none : goal.returns-else-sign-eq63-clause-none
returns-else-sign-eq63-clause-none c = no_pair_sign c.args.bytes.now c.in_ok-word.word.now c.in_ok-first.first c.in_ok-first.sign c.in_ok-first.second c.in_ok-first.rest.now c.in_ok-word.ensures.some c.in_ok-first.ensures.some (no_kind c.in_ok-first.sign c.if-sign-eq33.false c.if-sign-eq63.false)
