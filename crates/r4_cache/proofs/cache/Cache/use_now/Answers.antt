use Rattle.std.proofs.Common.{◌∙◌, ap}
use Rattle.r4_cache.specs.Cached.{cell_named, cells_of}
use Rattle.r4_cache.proofs.Caching.{front, named_front, still_found}
use Rattle.r4_cache.proofs.cache.Cache.use_now.Goals as goal

pub invariant_of-self : goal.invariant_of-self
invariant_of-self c = rw c.promote.ensures.entries (named_front _ _ c.self.invariant)

pub returns-clause-front : goal.returns-clause-front
returns-clause-front c = rw (c.promote.ensures.entries, ← c.self.view_is) (ap (λ es. record { entries = es; cap = c.self.inside.cells.cap }) (front _ _ c.self.invariant))

pub returns-clause-found : goal.returns-clause-found
returns-clause-found c = rw (c.promote.ensures.entries, ← c.self.view_is) (ap (cell_named c.args.id.0) (front _ _ c.self.invariant) ∙ still_found c.args.id.0 (cells_of c.self.inside.cells.entries))
