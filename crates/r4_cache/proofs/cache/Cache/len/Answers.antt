use Rattle.r4_cache.proofs.Caching.{lawful}
use Rattle.r4_cache.proofs.cache.Cache.len.Goals as goal

pub returns-clause-lawful : goal.returns-clause-lawful
returns-clause-lawful c = rw (← c.self.view_is) (lawful c.self.inside.cells c.self.invariant c.len.ensures.valid)
