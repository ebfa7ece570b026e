use Rattle.std.proofs.Common.{sym, ap}
use Rattle.r4_cache.proofs.Caching.{put, named_put}
use Rattle.r4_cache.proofs.cache.Cache.set.Goals as goal

pub invariant_of-self-2 : goal.invariant_of-self-2
invariant_of-self-2 c = rw (c.in_ok-put.ensures.entries, sym c.requires) (named_put c.self.inside.cells c.args.cell c.self.invariant)

pub returns-clause-entries : goal.returns-clause-entries
returns-clause-entries c = rw (c.in_ok-put.ensures.entries, sym c.requires, ← c.self.view_is)
    (ap (λ es. record { entries = es; cap = c.self.inside.cells.cap }) (put c.self.inside.cells c.args.cell c.self.invariant c.len.ensures.valid.1 c.len.ensures.valid.2))
