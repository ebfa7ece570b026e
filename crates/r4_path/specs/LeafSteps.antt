-- The cells of leaves that come in the place of one (docs/volume.md, "Edits").
use Rattle.std.specs.Prelude.{◌≡◌, ℕ, ◌+◌, ◌-◌, ◌/◌, List, [], ◌∷◌, Contains, drop, length}
use Rattle.std.specs.Prelude.{None, Some}
use Rattle.r4_base.specs.declared.key.Key.{Key}
use Rattle.r4_patch.specs.r4_cell.Seen.{CellSeen}
use Rattle.r4_patch.specs.r4_cell.declared.change.Fresh.{Fresh}
use Rattle.r4_leaf.specs.Leaves.{Packs}
use Rattle.r4_leaf.specs.Units.{LeafUnit}
use Rattle.r4_leaf.specs.declared.leaf.Leaf.{Leaf}
use Rattle.r4_patch.specs.Joining.{ids_of}
use Rattle.r4_path.specs.Levels.{HaveMkfsIdOf}
use Rattle.r4_path.specs.Levels.{units_of_cells}
use Rattle.r4_path.specs.Sharing.{IsSound}
use Rattle.r4_path.specs.Steps.{CountUp, IsStep, Step}

-- The cells of these leaves, each up to where the next one begins, the last up to a key. The first has this name, and the
-- others the next numbers.
abbrev pub leaf_cells : (id next : ℕ) → (hi : Key) → List Leaf → List CellSeen
leaf_cells id next hi [] = []
leaf_cells id next hi (x ∷ []) = record { id = id; level = 1; lo = x.lo; hi = hi; block = x.block } ∷ []
leaf_cells id next hi (x ∷ (y ∷ more)) =
    record { id = id; level = 1; lo = x.lo; hi = y.lo; block = x.block } ∷ leaf_cells next (next + 1) hi (y ∷ more)

-- Some units are shared out to the leaves, for this range.
abbrev pub ArePacked : (lo hi : ℕ) → List Leaf → Type 0
ArePacked lo hi leaves = (us : List LeafUnit) × Packs lo hi us leaves

-- The lowest step of a change puts the cells of these leaves in the place of a leaf, with numbers that were taken and its
-- mkfs_id.
pub record IsLeafStep (leaf : CellSeen) (us : List LeafUnit) (leaves : List Leaf) (before after : Fresh)
    (s : Step) : Type 0 where
  pub old : s.old ≡ leaf
  pub cells : s.new ≡ leaf_cells leaf.id before.next leaf.hi leaves
  pub step : IsStep None s
  pub sound : (c : CellSeen) → Contains s.new c → IsSound c
  pub counts : CountUp before.next (ids_of (drop 1 s.new))
  pub number : after ≡ record before { next = before.next + length (drop 1 s.new) }
  pub units : units_of_cells s.new ≡ us
  pub many : length s.new ≡ length leaves
  pub mkfs_id : HaveMkfsIdOf leaf s.new
