use Rattle.std.proofs.Common.{◌≡◌, ◌+◌, ◌*◌, ◌<◌, ◌≤◌, ℕ, length, subst, inl, inr, arith}
use Rattle.net_bag.specs.Index.{bit_in, IsFirstUnsetIn}
use Rattle.net_bag.specs.Sent.{IsNextOpen, HasNoOpen}
use Rattle.net_bag.proofs.KeptLemmas.{sent_of, next_open, none_open}
use Rattle.net_bag.proofs.bag.Bag.next_undelivered.Goals as goal

pub returns-then-k-count-clause-some : goal.returns-then-k-count-clause-some
returns-then-k-count-clause-some c =
    let inside = c.self.inside in
    let sent = sent_of inside.spellings inside.lost.items inside.delivered.items in
    let found : IsFirstUnsetIn inside.closed.items c.args.after c.in-Some.i = subst (λ ws. IsFirstUnsetIn ws c.args.after c.in-Some.i) c.deref.ensures.value c.in-Some.ensures.some in
    let there : c.in-Some.i + 1 ≤ length sent.spellings = omega arith in
    subst (λ s. IsNextOpen s c.args.after c.args.last (c.in-Some.i + 1)) c.self.view_is (next_open inside.closed.items sent c.args.after c.args.last c.in-Some.i c.self.invariant.indexed found (omega arith) there)

pub returns-in_default-clause-none : goal.returns-in_default-clause-none
returns-in_default-clause-none c =
    let inside = c.self.inside in
    let sent = sent_of inside.spellings inside.lost.items inside.delivered.items in
    let words = inside.closed.items in
    let set : (j : ℕ) → c.args.after ≤ j → j < 64 * length words → bit_in words j ≡ 1 = subst (λ ws. (j : ℕ) → c.args.after ≤ j → j < 64 * length ws → bit_in ws j ≡ 1) c.deref.ensures.value c.in_default.ensures.none in
    subst (λ s. HasNoOpen s c.args.after c.args.last) c.self.view_is (none_open words sent c.args.after c.args.last (64 * length words) c.self.invariant.indexed set (λ j within there. omega (arith, c.self.invariant.indexed.room, c.self.invariant.lost_each)))

pub returns-else-k-last-clause-none : goal.returns-else-k-last-clause-none
returns-else-k-last-clause-none c =
    let inside = c.self.inside in
    let sent = sent_of inside.spellings inside.lost.items inside.delivered.items in
    let i = c.in-Some.i in
    let words = inside.closed.items in
    let found : IsFirstUnsetIn words c.args.after i = subst (λ ws. IsFirstUnsetIn ws c.args.after i) c.deref.ensures.value c.in-Some.ensures.some in
    let few : (j : ℕ) → j ≤ c.args.last → j ≤ length sent.spellings → j ≤ i = λ j within there. elim c.else-k-last.either [ inl past ↦ omega (arith, past.1) | inr past ↦ omega arith ] in
    subst (λ s. HasNoOpen s c.args.after c.args.last) c.self.view_is (none_open words sent c.args.after c.args.last i c.self.invariant.indexed found.set_before few)
