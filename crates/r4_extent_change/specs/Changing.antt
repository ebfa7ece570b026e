-- A command's change of the cells of its task, where its body stands in extents and loses no blocks (docs/volume.md,
-- "Bodies in extents"). A key is its rank.
use Rattle.std.specs.Prelude.{◌≡◌, ℕ, ◌+◌, ◌*◌, ◌≤◌, ◌||◌, if◌then◌else◌, Bool, true, List, length}
use Rattle.std.specs.Prelude.{Contains, None, Option, Some}
use Rattle.r4_base.specs.Key.{rank}
use Rattle.r4_base.specs.Tree.{Name, Node, Root, Store}
use Rattle.r4_base.specs.Value.{Value}
use Rattle.r4_base.specs.declared.key.Key.{Key}
use Rattle.r4_build.specs.Building.{LiesInLeaf, set_by}
use Rattle.r4_content.specs.Edited.{Edits, changed, is_in}
use Rattle.r4_extent_loss.specs.r4_extent_build.Growing.{IsGrowing}
use Rattle.r4_extent_loss.specs.r4_extent_build.Looping.{keys_of_each, turns_of}
use Rattle.r4_extent_loss.specs.r4_extent_build.Setting.{bytes_after}
use Rattle.r4_extent_loss.specs.r4_extent_build.r4_twig_turns.Turning.{numbers_for}
use Rattle.r4_extent_renew.specs.Overwriting.{blocks_among, is_set_in}
use Rattle.r4_build.specs.r4_measure.Budget.{AreSeen, AreUnplaced, Budget, IsBudget, most_from}
use Rattle.r4_build.specs.r4_measure.Grafting.{IsQuietBelow}
use Rattle.r4_build.specs.r4_measure.r4_cell.Patch.{HaveNames}
use Rattle.r4_build.specs.r4_measure.r4_cell.Seen.{CellSeen, node_of}
use Rattle.r4_build.specs.r4_measure.r4_cell.declared.change.Fresh.{Fresh}
use Rattle.r4_build.specs.r4_measure.r4_leaf.Units.{leaf_bytes}
use Rattle.r4_build.specs.r4_measure.r4_patch.Effect.{Placed}
use Rattle.r4_build.specs.r4_measure.r4_reach.Needs.{is_met, units_after}
use Rattle.r4_build.specs.r4_measure.r4_reach.Touched.{Body}
use Rattle.r4_build.specs.r4_measure.r4_work.Working.{AreCellsIn}
use Rattle.r4_extent_change.specs.Beside.{turning_among, without_bytes}
use Rattle.r4_extent_change.specs.Turned.{MayTurn, blocks_coming}

-- ---- when it may be asked for

-- The part of a tree is one of cells and has the budget, and each cell is among these that names one of which something
-- may come.
pub record AreMeasured (t : Store Value) (r : Root) (u : Budget) (cells : List CellSeen) : Type 0 where
  pub seen : AreSeen t
  pub budget : IsBudget t r u
  pub height : r.height ≤ 8
  pub kept : (i : ℕ) (c : Node Value) (n : Name) → t i ≡ Some c → Contains c.names n → 1 ≤ n.level
      → 1 ≤ u n.level n.id → (x : CellSeen) × Contains cells x × (x.id ≡ i)

-- how many numbers suffice: those that the twigs' turns take, and 64 for each cell
abbrev pub numbers_needed : Body → Edits → List CellSeen → ℕ
numbers_needed b e cells = numbers_for (turns_of b e (turning_among b e cells)) + 64 * length cells

-- The body does not lose blocks. The cells are a part's and measured, and nothing comes beside leaves; data blocks are
-- of 4096 bytes. Each twig whose pieces change may have its turn. What is no byte lies in leaves among the cells, and
-- each of these has room for what it is to have. There are numbers enough.
pub record CanGrow (b : Body) (e : Edits) (u : Budget) (t : Store Value) (r : Root) (f : Fresh)
    (cells : List CellSeen) : Type 0 where
  pub first : Key
  pub growing : IsGrowing b first
  pub cells_in : AreCellsIn t r f cells
  pub names : HaveNames cells
  pub measured : AreMeasured t r u cells
  pub quiet : IsQuietBelow u
  pub blocks : (c : CellSeen) → Contains cells c → c.level ≡ 0
      → (rank c.hi ≡ rank c.lo + 4096) × (length c.block ≡ 4096)
  pub twigs : (c : CellSeen) → Contains (turning_among b e cells) c → MayTurn b e u c
  pub lie : (k : ℕ) → is_in (changed (without_bytes e)) k ≡ true → LiesInLeaf cells k
  pub room : (c : CellSeen) → Contains cells c → c.level ≡ 1
      → is_met (changed (without_bytes e)) (rank c.lo) (rank c.hi) ≡ true
      → leaf_bytes (units_after None (without_bytes e) (node_of c)) ≤ 4068
  pub unplaced : AreUnplaced f
  pub numbers : f.next + numbers_needed b e cells ≤ f.end

-- ---- what it does

-- how many new cells come at most: for each cell what may come in its place, a new root, and the blocks that come
abbrev pub most_grown : Body → Edits → Budget → Root → List CellSeen → ℕ
most_grown b e u r cells = most_from u r cells + blocks_coming b e (turning_among b e cells)

-- the keys that change: those in leaves, those of each twig whose pieces change, and those that are set in data blocks
abbrev pub grown_keys : Body → Edits → List CellSeen → (at : CellSeen → ℕ → Bool) → (key : ℕ) → Bool
grown_keys b e cells at k =
    is_in (changed (without_bytes e)) k
    || (keys_of_each at (turning_among b e cells) k || is_set_in e (blocks_among cells) k)

-- what stands there: what is put there, in a leaf; else the byte that is set, or a zero, in an extent
abbrev pub grown_values : Edits → (key : ℕ) → Option (Placed Value)
grown_values e k =
    if is_in (changed (without_bytes e)) k then set_by (without_bytes e) k else bytes_after e k
