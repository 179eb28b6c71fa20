use Rattle.std.proofs.Common.{◌≡◌, drop}
use Rattle.kr_protocol.specs.Client.{remembers_all, most_remembered}
use Rattle.client_session.proofs.answers.remember_all.Given as goal

abbrev pub invariant-loop-i : goal.invariant-loop-i
invariant-loop-i l =
    (remembers_all l.initial.cache.items l.entry l.pairs l.answers ≡ remembers_all l.cache.items l.entry (drop l.i l.pairs) (drop l.i l.answers)) × (l.cache.capacity ≡ most_remembered)
