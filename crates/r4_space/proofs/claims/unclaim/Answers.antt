use Rattle.std.proofs.Common.{length, arith}
use Rattle.r4_space.proofs.ClaimedLaws.{unclaimed}
use Rattle.r4_space.proofs.claims.unclaim.Goals as goal

pub returns-clause-each : goal.returns-clause-each
returns-clause-each c b lt =
    let size = c.unclaim_row.ensures.size in
    unclaimed (length c.args.claimed.now) b c.args.held.now c.args.deferred.now c.args.claimed.now c.args.twice.now _ _ c.args.atom c.requires.are lt (c.unclaim_row.ensures.each b lt) (c.unclaim_row-2.ensures.each b (omega arith))
