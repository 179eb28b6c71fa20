use Rattle.std.proofs.Common.{◌≡◌, ◌-◌, ◌<◌, ◌++◌, length, cond, eqb, take, drop, set, true, sym, ap, ◌∙◌, subst, arith}
use Rattle.net_bag.specs.Index.{bit_in}
use Rattle.kr_order.specs.Marks.{marked}
use Rattle.net_bag.specs.Sent.{Sent}
use Rattle.net_bag.specs.Kept.{IsKept}
use Rattle.net_bag.proofs.KeptLemmas.{rewritten, kept_lost}
use Rattle.net_bag.proofs.bag.Bag.mark_lost.Goals as goal

pub set_bit-requires : goal.set_bit-requires
set_bit-requires c =
    omega (arith, c.requires.first, c.requires.last, ap (λ (s : Sent). length s.spellings) c.self.view_is, c.self.invariant.lost_each, c.self.invariant.indexed.room, ap length c.deref_mut.ensures.value)

pub invariant_of-self : goal.invariant_of-self
invariant_of-self c =
    let inside = c.self.inside in
    let spellings = inside.spellings in
    let words = c.set_bit.new.words in
    let i = c.args.k - 1 in
    let within : i < length spellings = omega (arith, c.requires.first, c.requires.last, ap (λ (s : Sent). length s.spellings) c.self.view_is) in
    let count : length words ≡ length inside.closed.items = omega (arith, c.set_bit.auto.words, ap length c.deref_mut.ensures.value) in
    let same : take inside.closed.len (words ++ drop (length words) inside.closed.items) ≡ words = rewritten inside.closed.len words inside.closed.items (omega (arith, c.set_bit.auto.words, c.deref_mut.ensures.len)) in
    let kept = kept_lost spellings inside.lost.items inside.delivered.items inside.closed.items words inside.bytes i c.self.invariant within count (λ j. c.set_bit.ensures j ∙ ap (λ ws. cond (eqb j i) 1 (bit_in ws j)) c.deref_mut.ensures.value) in
    subst (λ ws. IsKept spellings (set inside.lost.items i true) inside.delivered.items ws inside.bytes) (sym same) kept

pub returns : goal.returns
returns c = ap (λ (s : Sent). record s { lost = marked s.lost c.args.k }) c.self.view_is
