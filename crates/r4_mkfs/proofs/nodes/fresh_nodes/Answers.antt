use Rattle.std.proofs.Common.{◌≡◌, ◌^◌, ℕ, List, sym, subst, arith, true, false}
use Rattle.std.specs.Prelude.{None}
use Rattle.r4_base.specs.Cell.{cell_fault}
use Rattle.r4_base.specs.Key.{least, top}
use Rattle.r4_base.proofs.FreshTree.{leaf_sound, twig_sound}
use Rattle.r4_cell.proofs.Faults.{cell_still}
use Rattle.r4_mkfs.proofs.nodes.fresh_nodes.Goals as goal

-- a node of the whole range that may stand on 64 blocks may stand in memory
stands : (level lo hi : ℕ) (b : List ℕ) → lo ≡ least → hi ≡ top → cell_fault false 64 level least top b ≡ None → cell_fault true (2 ^ 64) level lo hi b ≡ None
stands level lo hi b el eh sound =
    subst (λ (x : ℕ). cell_fault true (2 ^ 64) level x hi b ≡ None) (sym el)
    (subst (λ (x : ℕ). cell_fault true (2 ^ 64) level least x b ≡ None) (sym eh) (cell_still false 64 (2 ^ 64) level least top b (omega arith) sound))

pub new_cell-requires : goal.new_cell-requires
new_cell-requires c = stands 2 _ _ _ c.least.ensures c.top.ensures (twig_sound 64 _ (omega arith) c.fill_twig.ensures.item)

pub new_cell-requires-2 : goal.new_cell-requires-2
new_cell-requires-2 c = stands 1 _ _ _ c.least-2.ensures c.top-2.ensures (leaf_sound 64 _ c.fill_leaf.ensures.item)
