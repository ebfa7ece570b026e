use Rattle.std.proofs.Common.{◌≡◌, ◌∙◌, ◌^◌, ℕ, List, refl, sym, ap, subst, arith, true, false}
use Rattle.std.specs.Prelude.{None}
use Rattle.r4_base.specs.Cell.{cell_fault}
use Rattle.r4_base.specs.Key.{rank}
use Rattle.r4_cell.specs.Seen.{CellSeen}
use Rattle.r4_cell.proofs.Faults.{cell_still}
use Rattle.r4_patch_tests.proofs.changes.cell_of.Goals as goal

-- a data block may have any bytes
pub new_cell-requires : goal.new_cell-requires
unfolding cell_fault
new_cell-requires c = refl

-- a node that was read may stand in memory
pub new_cell-requires-2 : goal.new_cell-requires-2
new_cell-requires-2 c =
    let made = c.args.made.now in
    let is = c.in_ok-block-2.ensures ∙ c.block.ensures ∙ ap (λ (x : CellSeen). x.block) (c.deref.ensures ∙ c.in-Ok.ensures.cell) in
    subst (λ (b : List ℕ). cell_fault true (2 ^ 64) made.level (rank made.lo) (rank made.hi) b ≡ None) (sym is)
    (cell_still false 64 (2 ^ 64) made.level (rank made.lo) (rank made.hi) _ (omega arith) c.in-Ok.ensures.sound)
