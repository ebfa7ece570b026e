use Rattle.std.proofs.Common.{◌∙◌, sym}
use Rattle.r4_base.specs.Key.{rank}
use Rattle.r4_check.proofs.Judged.{leaf_no, leaf_yes}
use Rattle.r4_check.proofs.tally.leaf_at.Goals as goal

pub returns-then-level-eq-LEAF : goal.returns-then-level-eq-LEAF
returns-then-level-eq-LEAF c = let cell = c.args.cell.now in leaf_yes c.args.block cell.level (rank cell.lo) (rank cell.hi) cell.block (sym c.level.ensures ∙ c.if-level-eq-LEAF.true)

pub returns-else-level-eq-LEAF : goal.returns-else-level-eq-LEAF
returns-else-level-eq-LEAF c = let cell = c.args.cell.now in leaf_no c.args.block cell.level (rank cell.lo) (rank cell.hi) cell.block (λ is. c.if-level-eq-LEAF.false (c.level.ensures ∙ is))
