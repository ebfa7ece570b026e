use Rattle.std.proofs.Common.{arith}
use Rattle.r4_base.proofs.FreshTree.{least_below}
use Rattle.r4_buffer_tests.proofs.pools.search.Goals as goal

pub cover-requires-clause-below : goal.cover-requires-clause-below
cover-requires-clause-below g c = omega (arith, c.least.ensures, least_below)
