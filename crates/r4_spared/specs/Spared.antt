-- Commands that touch no extent (docs/volume.md, "Building").
use Rattle.std.specs.Prelude.{◌≡◌, ◌≢◌, ℕ, ◌+◌, ◌*◌, ◌^◌, ◌<◌, ◌≤◌, Bool, true, false, List, length}
use Rattle.std.specs.Prelude.{All, Contains, Option, None, Some}
use Rattle.std.specs.FinMap.{find}
use Rattle.std.specs.Ordering.{nat_cmp}
use Rattle.r4_base.specs.Key.{least}
use Rattle.r4_base.specs.Tree.{Node, Root, Store}
use Rattle.r4_base.specs.Value.{Content, Stat, Value}
use Rattle.r4_base.specs.Volume.{HasStat, IsObject, stat_rank}
use Rattle.r4_base.specs.declared.items.Attr.{Attr}
use Rattle.r4_base.specs.declared.items.Target.{Target}
use Rattle.r4_search.specs.r4_cell.Patch.{HaveNames}
use Rattle.r4_search.specs.r4_cell.Seen.{CellSeen, node_of}
use Rattle.r4_search.specs.r4_cell.declared.change.Fresh.{Fresh}
use Rattle.r4_content.specs.Course.{asked}
use Rattle.r4_content.specs.Edited.{Edits, Pairs, changed, is_in}
use Rattle.r4_content.specs.Fields.{HasBytePaths}
use Rattle.r4_content.specs.Meaning.{course, greatest_size}
use Rattle.r4_content.specs.Seen.{Rises, of_seen}
use Rattle.r4_content.specs.declared.command.Command.{Command}
use Rattle.r4_build.specs.r4_leaf_edits.Made.{spread_keys}
use Rattle.r4_build.specs.r4_patch.Part.{IsPart}
use Rattle.r4_build.specs.r4_path.Nodes.{IsPointable}
use Rattle.r4_build.specs.r4_path.Steps.{IsFree}
use Rattle.r4_build.specs.r4_reach.Demand.{Demand}
use Rattle.r4_build.specs.r4_reach.Leaves.{LieInLeaves}
use Rattle.r4_build.specs.r4_reach.Needs.{Ask, changes_pieces, come_of, demand_of, demand_on, going_of}
use Rattle.r4_build.specs.r4_reach.Reach.{IsRootAsking, IsWritten}
use Rattle.r4_build.specs.r4_reach.Touched.{Body, body_on, edits_on, reads_on}
use Rattle.r4_suited.specs.Suited.{AreLawfulSeen, IsAccepted}
use Rattle.r4_build.specs.r4_work.Working.{AreCellsIn}
use Rattle.r4_build.specs.r4_measure.Budget.{AreUnplaced}
use Rattle.r4_build.specs.Building.{SparesExtents}

-- What stands is cells that may stand, in memory.
pub record AreAccepted (t : Store Value) : Type 0 where
  pub cells : (i : ℕ) (c : Node Value) → t i ≡ Some c
      → (x : CellSeen) × (c ≡ node_of x) × (length x.block ≡ 4096) × IsAccepted x

-- So are these cells, of which no two have one number.
pub record MayStandAll (cells : List CellSeen) : Type 0 where
  pub accepted : All IsAccepted cells
  pub whole : (x : CellSeen) → Contains cells x → length x.block ≡ 4096
  pub names : HaveNames cells

-- No blocks come or go, no key that changes lies in an extent, and no twig's pieces change.
pub record Spares (b : Option Body) (e : Edits) (t : Store Value) : Type 0 where
  pub come : come_of b ≡ (0, 0)
  pub go : going_of b ≡ (0, 0)
  pub extents : SparesExtents e t
  pub still : (i : ℕ) (c : Node Value) → t i ≡ Some c → c.level ≡ 2
      → changes_pieces b e c ≡ false

-- A command, on what was seen, and a part of a tree whose cells may stand: all keys that it
-- changes lie in leaves.
pub record ChangesLeaves (c : Command) (s : Pairs) (in_extents : Bool) (t : Store Value)
    (root : Root) : Type 0 where
  pub part : IsPart t root
  pub accepted : AreAccepted t
  pub paths : HasBytePaths c
  pub rises : Rises s
  pub lawful : AreLawfulSeen c s
  pub tails : spread_keys (body_on c s in_extents) ≡ None
  pub lie : LieInLeaves t (is_in (changed (edits_on c s)))

-- The root may be parted, where it is asked to be: it stands below level 8.
abbrev pub MayRise : Demand Ask → Store Value → Root → Type 0
MayRise d t root = (x : Ask) → IsRootAsking d t root x → root.height < 8

-- A task has all cells of the part that are written, no two of one number, and 64 fresh numbers
-- for each.
pub record HasTask (d : Demand Ask) (t : Store Value) (root : Root) (f : Fresh)
    (cells : List CellSeen) : Type 0 where
  pub height : root.height ≤ 8
  pub low : MayRise d t root
  pub cells_in : AreCellsIn t root f cells
  pub written : (i : ℕ) → IsWritten d t i → (x : CellSeen) × Contains cells x × (x.id ≡ i)
  pub names : HaveNames cells
  pub unplaced : AreUnplaced f
  pub numbers : f.next + 64 * length cells ≤ f.end

-- There are 64 fresh numbers for each of these cells, which are free in a part of a tree; no two of
-- the cells have one number.
pub record HasNumbers (t : Store Value) (root : Root) (f : Fresh) (cells : List CellSeen)
    : Type 0 where
  pub root_number : IsPointable root.id
  pub names : HaveNames cells
  pub free : IsFree f.next f.end t
  pub unplaced : AreUnplaced f
  pub numbers : f.next + 64 * length cells ≤ f.end

-- What the command asks of a tree is what its edits ask, of just the keys that they change.
abbrev pub IsAskedInLeaves : Command → Pairs → (in_extents : Bool) → Type 0
IsAskedInLeaves c s in_extents = demand_on c s in_extents
    ≡ demand_of (body_on c s in_extents) (edits_on c s) (reads_on c s in_extents)
    (changed (edits_on c s))

-- Each object that a command finds in what was seen stands from the least key on, and has an id
-- from 42 on and a size of 64 bits.
abbrev pub AreObjectsSeen : Command → Pairs → Type 0
AreObjectsSeen c s = (o : Target) (a : Attr) → IsObject o
    → is_in (asked (course greatest_size c) (of_seen s)) (stat_rank o) ≡ true
    → find nat_cmp (stat_rank o) s ≡ Some (Stat a)
    → (least ≤ stat_rank o) × (42 ≤ o.oid.0) × (a.size < 2 ^ 64)

-- The objects of a content have ids from 42 on, and sizes of 64 bits.
abbrev pub HasGoodObjects : Content → Type 0
HasGoodObjects m = (o : Target) (a : Attr) → HasStat m o a → (42 ≤ o.oid.0) × (a.size < 2 ^ 64)
