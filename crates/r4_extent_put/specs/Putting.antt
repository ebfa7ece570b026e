-- When a command's change may be made of the cells of its task, where values come among the extents
-- of its twigs, and how many cells come (docs/volume.md, "Bodies in extents"). A key is its rank.
use Rattle.std.specs.Prelude.{◌≡◌, ℕ, ◌+◌, ◌*◌, ◌≤◌, true, List, Contains, Option, length, sum_by}
use Rattle.r4_base.specs.Key.{rank}
use Rattle.r4_base.specs.Tree.{Root, Store}
use Rattle.r4_base.specs.Value.{Value}
use Rattle.r4_content.specs.Edited.{Edits, changed}
use Rattle.r4_extent_among.specs.Among.{IsFree, among_need, more_twigs, values_among}
use Rattle.r4_extent_among.specs.AmongIn.{numbers_among}
use Rattle.r4_extent_turned.specs.r4_extent_growth.r4_extent_change.Changing.{AreMeasured}
use Rattle.r4_extent_turned.specs.r4_extent_growth.r4_extent_demands.r4_leaf_demands.Leaves.{IsInLeaves}
use Rattle.r4_extent_turned.specs.r4_extent_growth.r4_measure.Budget.{AreUnplaced, Budget, most_from}
use Rattle.r4_extent_turned.specs.r4_extent_growth.r4_measure.Grafting.{IsQuietBelow}
use Rattle.r4_extent_turned.specs.r4_extent_growth.r4_measure.r4_cell.Patch.{HaveNames}
use Rattle.r4_extent_turned.specs.r4_extent_growth.r4_measure.r4_cell.Seen.{CellSeen, node_of}
use Rattle.r4_extent_turned.specs.r4_extent_growth.r4_measure.r4_cell.declared.change.Fresh.{Fresh}
use Rattle.r4_extent_turned.specs.r4_extent_growth.r4_measure.r4_leaf.Units.{LeafUnit, leaf_bytes}
use Rattle.r4_extent_turned.specs.r4_extent_growth.r4_measure.r4_path.Sharing.{IsSound}
use Rattle.r4_extent_turned.specs.r4_extent_growth.r4_measure.r4_reach.Needs.{is_met, put_among, units_after}
use Rattle.r4_extent_turned.specs.r4_extent_growth.r4_measure.r4_reach.Touched.{Body}
use Rattle.r4_extent_turned.specs.r4_extent_growth.r4_measure.r4_work.Working.{AreCellsIn}
use Rattle.r4_extent_put.specs.Whole.{putting_among}

-- The twig is sound, no value comes where it has a block or a hole, and it needs no more than 16000
-- bytes.
pub record TakesValues (b : Option Body) (e : Edits) (c : CellSeen) : Type 0 where
  pub sound : IsSound c
  pub free : (v : LeafUnit) → Contains (values_among b e c) v → IsFree c v.0
  pub room : among_need b e c ≤ 16000

-- and what comes beside it is in the budget
pub record MayTake (b : Option Body) (e : Edits) (u : Budget) (c : CellSeen) : Type 0 where
  pub takes : TakesValues b e c
  pub come : more_twigs (among_need b e c) ≤ u 2 c.id

-- how many numbers suffice: those that the twigs take, and 64 for each cell
abbrev pub numbers_put : Option Body → Edits → List CellSeen → ℕ
numbers_put b e cells = sum_by (numbers_among b e) (putting_among b e cells) + 64 * length cells

-- No body stands in extents afterwards. The cells are a part's and measured, and the budget has
-- nothing for leaves. Each twig among whose extents values come may take them. There are numbers
-- enough.
pub record CanPut (b : Option Body) (e : Edits) (u : Budget) (t : Store Value) (r : Root)
    (f : Fresh) (cells : List CellSeen) : Type 0 where
  pub in_leaves : IsInLeaves b
  pub cells_in : AreCellsIn t r f cells
  pub names : HaveNames cells
  pub measured : AreMeasured t r u cells
  pub quiet : IsQuietBelow u
  pub twigs : (c : CellSeen) → Contains (putting_among b e cells) c → MayTake b e u c
  pub unplaced : AreUnplaced f
  pub numbers : f.next + numbers_put b e cells ≤ f.end

-- Each leaf that changes has room for what it is to have.
abbrev pub LeavesHaveRoom : Option Body → Edits → List CellSeen → Type 0
LeavesHaveRoom b e cells = (c : CellSeen) → Contains cells c → c.level ≡ 1
    → is_met (changed e) (rank c.lo) (rank c.hi) ≡ true
    → leaf_bytes (units_after b e (node_of c)) ≤ 4068

-- ---- how many cells come

-- how many leaves come at most
abbrev pub leaves_put : Option Body → Edits → List CellSeen → ℕ
leaves_put b e cells =
    sum_by (λ (c : CellSeen). put_among b e (node_of c)) (putting_among b e cells)

-- how many new cells come at most where leaves have room: for each cell what may come in its place,
-- a new root, and the leaves that come
abbrev pub most_put : Option Body → Edits → Budget → Root → List CellSeen → ℕ
most_put b e u r cells = most_from u r cells + leaves_put b e cells
