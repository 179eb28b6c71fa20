use Rattle.std.proofs.Common.{sym, subst, arith}
use Rattle.order_cache.specs.Cached.{IsCache, items_of}
use Rattle.order_cache.proofs.EntryLemmas.{IsCache-empty}
use Rattle.order_cache.proofs.cache.Cache.new.Goals as goal

pub invariant_of-result : goal.invariant_of-result
invariant_of-result c =
    subst (λ k. IsCache k.cap (items_of k.entries)) (sym c.in_ok-new.ensures) (IsCache-empty _ (omega arith))
