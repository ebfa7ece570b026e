-- A leaf that was lent, and what comes in its place.
use Rattle.std.proofs.Common.{◌≡◌, ℕ, ◌^◌, true, List, length, sym, ap, subst, ◌∙◌}
use Rattle.std.specs.Prelude.{None}
use Rattle.r4_base.specs.Cell.{cell_fault, units_in}
use Rattle.r4_base.specs.Key.{rank}
use Rattle.r4_base.specs.Node.{Item, items_of}
use Rattle.r4_base.specs.declared.key.Key.{Key}
use Rattle.r4_path.specs.r4_cell.Seen.{CellSeen, node_of}
use Rattle.r4_path.specs.r4_leaf.Leaves.{AreFew, MayStand, Packs}
use Rattle.r4_path.specs.r4_leaf.Units.{LeafUnit}
use Rattle.r4_path.specs.r4_leaf.declared.leaf.Leaf.{Leaf}
use Rattle.r4_edit.specs.Editing.{AreLeavesOf}
use Rattle.r4_path.proofs.CellNodes.{units_are}

module _ (leaf : CellSeen) (level : leaf.level ≡ 1) where
  pub lent_stands : (b : List ℕ) (lo : Key) → b ≡ leaf.block → lo ≡ leaf.lo → length leaf.block ≡ 4096
      → cell_fault true (2 ^ 64) leaf.level (rank leaf.lo) (rank leaf.hi) leaf.block ≡ None
      → MayStand (rank lo) (rank leaf.hi) b
  lent_stands b lo same at whole accepted =
      subst (MayStand (rank lo) (rank leaf.hi)) (sym same)
      (subst (λ (k : Key). MayStand (rank k) (rank leaf.hi) leaf.block) (sym at)
      (whole, subst (λ l. cell_fault true (2 ^ 64) l (rank leaf.lo) (rank leaf.hi) leaf.block ≡ None) level accepted))

  pub lent_units : (items : List Item) → items ≡ items_of leaf.block → units_in items ≡ (node_of leaf).units
  lent_units items same = ap units_in same ∙ sym (units_are leaf 0 level)

  pub lent_leaves : (f : List LeafUnit → List LeafUnit) (items : List Item) (lo : Key) (leaves : List Leaf) → items
      ≡ items_of leaf.block → lo ≡ leaf.lo
      → Packs (rank lo) (rank leaf.hi) (f (units_in items)) leaves → AreFew (f (units_in items)) leaves
      → AreLeavesOf leaf (f (node_of leaf).units) leaves
  lent_leaves f items lo leaves same at packs few =
      let units = lent_units items same in
      record {
        packs = subst (λ us. Packs (rank leaf.lo) (rank leaf.hi) (f us) leaves) units
            (subst (λ (k : Key). Packs (rank k) (rank leaf.hi) (f (units_in items)) leaves) at packs);
        few = subst (λ us. AreFew (f us) leaves) units few;
      }
