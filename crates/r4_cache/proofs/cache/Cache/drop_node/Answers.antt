use Rattle.std.proofs.Common.{ap}
use Rattle.r4_cache.proofs.Caching.{removed, named_removed}
use Rattle.r4_cache.proofs.cache.Cache.drop_node.Goals as goal

pub invariant_of-self : goal.invariant_of-self
invariant_of-self c = rw c.pop.ensures.entries (named_removed _ _ c.self.invariant)

pub returns : goal.returns
returns c = rw (c.pop.ensures.entries, ← c.self.view_is) (ap (λ es. record { entries = es; cap = c.self.inside.cells.cap }) (removed _ _ c.self.invariant))
