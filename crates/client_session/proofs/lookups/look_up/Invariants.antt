use Rattle.std.proofs.Common.{◌≡◌, ◌≤◌, ◌++◌, length, drop}
use Rattle.kr_protocol.specs.Client.{looks_all}
use Rattle.client_session.proofs.lookups.look_up.Given as goal

abbrev pub invariant-loop-pair : goal.invariant-loop-pair
invariant-loop-pair l =
    let rest = looks_all l.q l.cache.items (drop l.pair-index l.pairs) in
    let all = looks_all l.q l.initial.cache.items l.pairs in
    (all.parts ≡ l.looked.parts ++ rest.parts) × (all.left ≡ l.looked.left ++ rest.left) × (all.cache ≡ rest.cache) × (length l.looked.left ≤ l.pair-index) × (l.cache.capacity ≡ l.initial.cache.capacity)
