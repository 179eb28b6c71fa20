use Rattle.std.proofs.Common.{ap, ◌∙◌}
use Rattle.std.specs.Prelude.{is_some}
use Rattle.std.specs.Map.{lookup}
use Rattle.order_cache.specs.Cached.{is_key}
use Rattle.order_cache.proofs.EntryLemmas.{Puts, puts, is_some-lookup}
use Rattle.order_cache.proofs.cache.Cache.put.Goals as goal

facts : (c : goal.In_ok-keep) → Puts c.args.a.0 c.args.b.0 c.args.seen c.self.inside.kept c.keep.new.kept
facts c =
    puts _ _ _ _ _ c.key_of.result c.turned.result c.key_of.ensures c.turned.ensures c.in_ok-keep.ensures.ok c.requires c.self.invariant

pub returns-in_err-keep-clause-known : goal.returns-in_err-keep-clause-known
returns-in_err-keep-clause-known c =
    rw (← c.self.view_is) (λ some.
    let by_pair = ap (λ k. is_some (lookup (is_key k) c.self.inside.kept.entries)) c.key_of.ensures in
    let is_item = is_some-lookup c.args.a.0 c.args.b.0 c.self.inside.kept.entries in
    let ok = c.keep.ensures.known (by_pair ∙ is_item ∙ some) in
    let err = c.in_err-keep.was in
    cc)

pub invariant_of-self-2 : goal.invariant_of-self-2
invariant_of-self-2 c = (facts c).cache

pub returns-clause-ok : goal.returns-clause-ok
returns-clause-ok c = rw (← c.self.view_is) (let f = facts c in let i = f.items in let p = f.capacity in cc)
