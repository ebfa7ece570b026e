use Rattle.r4_search.specs.Path.{root_name}
use Rattle.r4_search.specs.Pool.{IsKnown}
use Rattle.r4_buffer_tests.proofs.pools.search_all.Given as goal

abbrev pub invariant-searches : goal.invariant-searches
invariant-searches g l = IsKnown (g.P.Pool.state l.pool) (root_name l.root)
