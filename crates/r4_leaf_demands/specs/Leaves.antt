-- What a command whose edits are of leaves alone asks of the cells of a tree (docs/volume.md, "Reach"). A key is its
-- rank.
use Rattle.std.specs.Prelude.{◌≡◌, ℕ, ◌+◌, ◌*◌, ◌==◌, ◌<◌, ◌≤◌, List, [], false, nat_lt}
use Rattle.std.specs.Prelude.{Contains, Option, None, Some, if◌then◌else◌}
use Rattle.r4_base.specs.Node.{items_of}
use Rattle.r4_base.specs.Tree.{Name, Node, Root}
use Rattle.r4_base.specs.Value.{Value}
use Rattle.r4_cell.specs.Patch.{by_name}
use Rattle.r4_cell.specs.Seen.{CellSeen, node_of}
use Rattle.r4_content.specs.Bodies.{larger}
use Rattle.r4_content.specs.Edited.{Edits, Intervals, changed, is_in}
use Rattle.r4_content.specs.Seen.{Rises}
use Rattle.r4_content.specs.declared.edits.Edits.{Edits as HeldEdits}
use Rattle.r4_leaf.specs.Units.{leaf_bytes}
use Rattle.r4_suited.specs.r4_leaf_edits.Suiting.{SuitLeaves}
use Rattle.r4_marking.specs.r4_patch.Part.{IsPart}
use Rattle.r4_marking.specs.r4_path.Nodes.{weight}
use Rattle.r4_marking.specs.r4_reach.Demand.{Demand}
use Rattle.r4_marking.specs.r4_reach.Needs.{Ask, all_more, asking, changes_pieces, growing}
use Rattle.r4_marking.specs.r4_reach.Needs.{is_met, over, units_after}
use Rattle.r4_marking.specs.r4_reach.Touched.{Body, is_spread}

-- ---- what cells ask for

-- so many bytes a node needs, with a pointer of 46 bytes for each cell that comes below it
abbrev pub bearing : Node Value → List (Name × Ask) → ℕ
bearing c hs = weight (items_of c.block) + 46 * all_more hs

-- How many pointers a node of a level asks for that needs so many bytes; a twig at least for one for each leaf below it
-- that needs too much.
abbrev pub node_more : (level bytes leaves : ℕ) → ℕ
node_more level bytes leaves =
    if level == 2 then (if nat_lt 4068 bytes then larger (over bytes) leaves else 0) else over bytes

-- so many pointers are asked for, if any
abbrev pub needing : ℕ → Option Ask
needing n = asking false (record { more = n; gone = false })

-- A leaf that has a changed key asks by its units afterwards, a node by its items and the pointers that come.
abbrev pub changed_leaf_asks : Edits → Node Value → Option Ask
changed_leaf_asks e c = needing (over (leaf_bytes (units_after None e c)))

abbrev pub leaf_change_asks : Edits → Node Value → List (Name × Ask) → Option Ask
leaf_change_asks e c hs =
    if c.level == 1 then (if is_met (changed e) c.lo c.hi then changed_leaf_asks e c else None)
    else needing (node_more c.level (bearing c hs) (growing hs))

-- no twig turns, and nothing stands beside
abbrev pub leaf_demand : Edits → (reads : Intervals) → Demand Ask
leaf_demand e reads = record {
  reads = is_in reads;
  changes = is_in (changed e);
  asks = leaf_change_asks e;
  turns = λ c. false;
  beside = λ c. [];
}

-- ---- for which edits

-- Leaves can take them, and one whose units fit into it has so few bytes afterwards that it can be parted.
pub record AreLeafEdits (e : Edits) : Type 0 where
  pub suit : SuitLeaves 16384 e
  pub small : (n : Node Value) → Rises n.units → leaf_bytes n.units ≤ 4068
      → leaf_bytes (units_after None e n) < 58912

-- what contracts see of the demands: edits, and the keys that are read
pub record DemandsSeen : Type 0 where
  pub edits : HeldEdits
  pub reads : Intervals

-- no body stands in extents afterwards
abbrev pub IsInLeaves : Option Body → Type 0
IsInLeaves None = Unit {0}
IsInLeaves (Some b) = is_spread b ≡ false

-- The edits are of leaves alone on the cells that were met: no body stands in extents afterwards, and no pieces of a
-- twig change. The cells are a part of a tree, and what a node above the leaves has fits into it.
pub record AreOfLeaves (b : Option Body) (e : Edits) (met : List CellSeen) (root : Root) : Type 0
  where
    pub part : IsPart (by_name met) root
    pub fits : (c : CellSeen) → Contains met c → 2 ≤ c.level → weight (items_of c.block) ≤ 4068
    pub in_leaves : IsInLeaves b
    pub still : (c : CellSeen) → Contains met c → c.level ≡ 2
        → changes_pieces b e (node_of c) ≡ false
