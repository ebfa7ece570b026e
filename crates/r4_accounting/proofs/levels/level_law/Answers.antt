use Rattle.std.proofs.Common.{arith, true, ◌^◌}
use Rattle.r4_base.specs.Key.{rank}
use Rattle.r4_cell.proofs.NodesAt.{node_at}
use Rattle.r4_cell.proofs.r4_node40.Accepted.{good}
use Rattle.r4_accounting.proofs.levels.level_law.Goals as goal

pub returns-then-level-gt0 : goal.returns-then-level-gt0
returns-then-level-gt0 c =
    let x = c.args.cell.now in
    let some = c.if-level-gt0.true in
    let is = c.level.ensures in
    let node = node_at true (2 ^ 64) x.level (rank x.lo) (rank x.hi) x.block (omega (arith, some, is))
    c.node.ensures.stands in
    let most = (good x.block c.node.ensures.whole node.accepted).0.head.level.1 in
    let same = node.level_is in
    omega (arith, most, same)
