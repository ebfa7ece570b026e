use Rattle.std.proofs.Common.{◌≢◌, true, ◌^◌, sym, ap, ◌∙◌, subst}
use Rattle.std.specs.Ordering.{nat_cmp}
use Rattle.std.specs.BTreeMap.{get}
use Rattle.r4_base.specs.Cell.{cell_fault}
use Rattle.r4_base.specs.Key.{rank}
use Rattle.r4_base.specs.Node.{node_fault}
use Rattle.r4_flush.specs.Anew.{IsBlockAnew, new_name}
use Rattle.r4_flush.proofs.Faults.{block_stands, data_stands, node_sound}
use Rattle.r4_flush.proofs.cells.rename_block.Goals as goal
use Rattle.r4_flush.proofs.cells.rename_block.Goals.{then-level-ne0, else-level-ne0}

pub rename_items-requires-clause-node : goal.rename_items-requires-clause-node
rename_items-requires-clause-node c =
    let some : c.args.cell.now.level ≢ 0 = λ none. c.if-level-ne0.true (c.level.ensures ∙ none) in
    ap node_fault (c.in_ok-block.ensures ∙ c.block.ensures)
    ∙ node_sound c.args.cell.now.level (rank c.args.cell.now.lo) (rank c.args.cell.now.hi) c.args.cell.now.block some
    c.node.ensures.stands

pub returns-clause-stands : goal.returns-clause-stands
returns-clause-stands c = elim c.if-level-ne0.branch [
  | then-level-ne0 w ↦
      let some : c.args.cell.now.level ≢ 0 = λ none. w.if-level-ne0.true (c.level.ensures ∙ none) in
      let same = c.in_ok-block.ensures ∙ c.block.ensures in
      let anew = subst (λ b. IsBlockAnew (new_name (get nat_cmp c.args.names.now)) b w.rename_items.new.block) same
      w.rename_items.ensures.anew in
      ap (cell_fault true (2 ^ 64) c.args.cell.now.level (rank c.args.cell.now.lo) (rank c.args.cell.now.hi)) w.block-is
      ∙ block_stands (new_name (get nat_cmp c.args.names.now)) c.requires c.args.cell.now.level
      (rank c.args.cell.now.lo) (rank c.args.cell.now.hi) c.args.cell.now.block w.rename_items.new.block
      (λ none. absurd (some none)) (λ yes. anew) (λ yes none. w.rename_items.ensures.again) w.node.ensures.stands
  | else-level-ne0 w ↦ data_stands c.args.cell.now.level (rank c.args.cell.now.lo) (rank c.args.cell.now.hi) _
      (sym c.level.ensures ∙ w.if-level-ne0.false)
]
