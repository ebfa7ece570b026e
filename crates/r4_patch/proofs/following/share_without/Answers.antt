use Rattle.std.proofs.Common.{map, rules}
use Rattle.std.specs.Arc.{arc_value}
use Rattle.r4_patch.proofs.LeftOut.{more_shared}
use Rattle.r4_patch.proofs.following.share_without.Goals as goal

pub loop-cell-preserved : goal.loop-cell-preserved
loop-cell-preserved c =
    more_shared (λ cell. arc_value cell) c.args.ids.now (map (λ cell. arc_value cell) c.args.items.now.items) _ _ c.args.cells.now c.loop-cell.cell-index c.cell-item.result
    (search rules) c.loop-cell.invariant c.cell-item.is c.in_ok-share_unless.ensures
