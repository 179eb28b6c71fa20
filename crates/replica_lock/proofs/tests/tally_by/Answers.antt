use Rattle.std.proofs.Common.{◌≡◌, ◌*◌, length, ap, sym, ◌∙◌, mul-one}
use Rattle.replica_lock.proofs.TotalLemmas.{sum_by-same}
use Rattle.replica_lock.proofs.tests.tally_by.Goals as goal

pub close-requires-clause-whole : goal.close-requires-clause-whole
close-requires-clause-whole g c =
    let row = c.add_by_all.new.row.items in
    let long : length row ≡ c.args.threads =
    c.add_by_all.ensures.all ∙ (c.in-Ok.ensures.all ∙ ap (λ s. s.left) c.in_ok-turn.ensures.seats) in
    sum_by-same (λ s. s.parts) 1 row c.add_by_all.ensures.parts ∙ (mul-one (length row) ∙ (long ∙ sym c.in_ok-turn.ensures.turn.1))

pub returns-clause-entries : goal.returns-clause-entries
returns-clause-entries g c =
    let row = c.add_by_all.new.row.items in
    let long : length row ≡ c.args.threads =
    c.add_by_all.ensures.all ∙ (c.in-Ok.ensures.all ∙ ap (λ s. s.left) c.in_ok-turn.ensures.seats) in
    c.close.ensures.count ∙ (sum_by-same (λ s. s.gives) c.args.times row c.add_by_all.ensures.gives ∙ ap (λ n. n * c.args.times) long)
