-- A command's edits as one change of the cells of its task, where they lie in leaves (docs/volume.md, "Building").
use Rattle.std.specs.Prelude.{◌≡◌, ◌⊎◌, ℕ, ◌+◌, ◌*◌, ◌<◌, ◌≤◌, true, false, List, [], length, Contains, None}
use Rattle.std.specs.Prelude.{Option, Some}
use Rattle.std.specs.FinMap.{find}
use Rattle.std.specs.Ordering.{nat_cmp}
use Rattle.r4_base.specs.Key.{least, rank, top}
use Rattle.r4_base.specs.Tree.{Node, Root, Span, Store}
use Rattle.r4_base.specs.Value.{Value}
use Rattle.r4_measure.specs.r4_cell.Patch.{HaveNames}
use Rattle.r4_measure.specs.r4_cell.Seen.{CellSeen, node_of}
use Rattle.r4_measure.specs.r4_cell.declared.change.Change.{Change}
use Rattle.r4_measure.specs.r4_cell.declared.change.Fresh.{Fresh}
use Rattle.r4_content.specs.Edited.{Edits, Intervals, changed, is_in}
use Rattle.r4_content.specs.Listed.{list_edited}
use Rattle.r4_measure.specs.r4_leaf.Units.{leaf_bytes}
use Rattle.r4_leaf_edits.specs.Made.{spread_keys}
use Rattle.r4_measure.specs.r4_patch.Effect.{Placed, in_leaf}
use Rattle.r4_measure.specs.r4_patch.Joining.{ids_of}
use Rattle.r4_measure.specs.r4_reach.Leaves.{most_of}
use Rattle.r4_measure.specs.r4_reach.Needs.{demand_of, is_met, units_after}
use Rattle.r4_measure.specs.r4_reach.Touched.{Body}
use Rattle.r4_measure.specs.r4_work.Order.{HasKey}
use Rattle.r4_measure.specs.Begin.{IsReachedFor}
use Rattle.r4_measure.specs.Budget.{AreUnplaced}

-- One of the cells is a leaf that has the key.
abbrev pub LiesInLeaf : List CellSeen → ℕ → Type 0
LiesInLeaf cells k = (c : CellSeen) × Contains cells c × (c.level ≡ 1) × HasKey c k

-- No key that changes lies in an extent.
abbrev pub SparesExtents : Edits → Store Value → Type 0
SparesExtents e t = (i : ℕ) (c : Node Value) (s : Span) → t i ≡ Some c → Contains c.spans s
    → is_met (changed e) s.lo s.hi ≡ false

-- Each key that changes is one that an item may have.
abbrev pub HaveLawfulKeys : Edits → Type 0
HaveLawfulKeys e = (k : ℕ) → is_in (changed e) k ≡ true → (least ≤ k) × (k < top)

-- The cells are a part's, with all that the edits write; each key that changes lies in a leaf among them, and no body
-- goes to extents. There are 64 numbers for each cell.
pub record CanBuild (b : Option Body) (e : Edits) (reads : Intervals) (t : Store Value) (r : Root)
    (f : Fresh) (cells : List CellSeen) : Type 0 where
  pub reached : IsReachedFor b e reads (changed e) t r f cells
  pub tails : spread_keys b ≡ None
  pub names : HaveNames cells
  pub lie : (k : ℕ) → is_in (changed e) k ≡ true → LiesInLeaf cells k
  pub small : (c : CellSeen) → Contains cells c → c.level ≡ 1
      → is_met (changed e) (rank c.lo) (rank c.hi) ≡ true
      → leaf_bytes (units_after b e (node_of c)) < 58912
  pub unplaced : AreUnplaced f
  pub numbers : f.next + 64 * length cells ≤ f.end

-- how many new cells come at most
abbrev pub most_new : Option Body → Edits → (reads : Intervals) → Store Value → Root → List CellSeen
    → ℕ
most_new b e reads t r cells = most_of (demand_of b e reads (changed e)) t r cells

-- what edits set at a key that they change, wherever they are made: it stands in a leaf
abbrev pub set_by : Edits → ℕ → Option (Placed Value)
set_by e k = in_leaf (find nat_cmp k (list_edited e []))

-- Each new cell has the number of an old one, or one of those that were taken.
abbrev pub AreNumbered : (before after : Fresh) → Change → Type 0
AreNumbered before after d = (c : CellSeen) → Contains d.new c
    → Contains (ids_of d.old) c.id ⊎ ((before.next ≤ c.id) × (c.id < after.next))
