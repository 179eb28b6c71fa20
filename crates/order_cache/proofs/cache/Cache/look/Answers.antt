use Rattle.std.proofs.Common.{sym, ◌∙◌}
use Rattle.order_cache.proofs.EntryLemmas.{Looks, looks}
use Rattle.order_cache.proofs.cache.Cache.look.Goals as goal

facts : (c : goal.After-told) → Looks c.args.a.0 c.args.b.0 c.self.inside.kept c.recall-found.new.kept c.recall-found.result
facts c = looks _ _ _ _ _ c.key_of.result c.key_of.ensures c.recall-found.ensures.value c.recall-found.ensures.kept c.self.invariant

pub invariant_of-self : goal.invariant_of-self
invariant_of-self c = (facts c).cache

pub returns-clause-told : goal.returns-clause-told
returns-clause-told c = rw (c.told.ensures, ← c.self.view_is) (facts c).told

pub returns-clause-items : goal.returns-clause-items
returns-clause-items c = rw (← c.self.view_is) (let f = facts c in let i = f.items in let p = f.capacity in cc)

pub returns-clause-none : goal.returns-clause-none
returns-clause-none c = rw (c.told.ensures, ← c.self.view_is) (λ h. sym (facts c).none ∙ h, λ h. (facts c).none ∙ h)

pub returns-clause-lasting : goal.returns-clause-lasting
returns-clause-lasting c = rw c.told.ensures (facts c).lasting
