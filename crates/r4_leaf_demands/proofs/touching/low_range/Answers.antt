use Rattle.std.proofs.Common.{arith, sym, ◌∙◌}
use Rattle.r4_leaf_demands.proofs.AtCells.{data_none, leaf_none}
use Rattle.r4_leaf_demands.proofs.touching.low_range.Goals as goal
use Rattle.r4_leaf_demands.proofs.touching.low_range.Goals.{then-level-eq-LEAF, else-level-eq-LEAF}

pub returns-clause-none : goal.returns-clause-none
returns-clause-none c =
    let level = c.level.ensures in
    let low = c.requires in
    elim c.if-level-eq-LEAF.branch [
      | then-level-eq-LEAF w ↦ leaf_none c.args.cell.now (sym level ∙ w.if-level-eq-LEAF.true) w.node.ensures.whole
          w.node.ensures.stands
      | else-level-eq-LEAF w ↦ data_none c.args.cell.now
          (let other = w.if-level-eq-LEAF.false in omega (arith, level, low, other))
    ]
