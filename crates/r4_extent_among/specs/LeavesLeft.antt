-- What the turn of a twig among whose extents values are put leaves of a working set
-- (docs/volume.md, "Bodies in extents").
use Rattle.std.specs.Prelude.{◌≡◌, ◌≢◌, ◌+◌, ◌<◌, ◌≤◌, List, Contains, length}
use Rattle.r4_base.specs.Tree.{Root, Store}
use Rattle.r4_base.specs.Value.{Value}
use Rattle.r4_build.specs.Making.{StaysOf}
use Rattle.r4_extent_build.specs.r4_cell.Patch.{HaveNames}
use Rattle.r4_extent_build.specs.r4_cell.Seen.{CellSeen}
use Rattle.r4_extent_build.specs.r4_cell.declared.change.Fresh.{Fresh}
use Rattle.r4_extent_build.specs.r4_twig_turns.Turning.{behind}
use Rattle.r4_build.specs.r4_measure.Budget.{Budget, most_from}
use Rattle.r4_build.specs.r4_measure.Grafting.{IsQuietBelow}
use Rattle.r4_build.specs.r4_measure.Measured.{IsMeasured}
use Rattle.r4_build.specs.r4_work.Working.{root_of, standing}
use Rattle.r4_build.specs.r4_work.declared.working.WorkingSet.{WorkingSet}
use Rattle.r4_extent_among.specs.Among.{among_turn, numbered}

-- The set after it is measured for the numbers that are left, and still nothing more comes below
-- twigs. In the end there may be no more cells than before, and the leaves that came. Each leaf
-- that stood stands, and each other twig and data block that did, of which as much may come as
-- before. So do the leaves that came, each of a number that was taken, no two of one. What was of
-- some cells is still of them.
pub record LeavesLeaves (u : Budget) (t : Store Value) (r : Root) (f : Fresh) (w now : WorkingSet)
    (twig : CellSeen) (cells : List CellSeen) : Type 0 where
  pub left : Budget
  pub measured : IsMeasured t r (behind (among_turn twig cells) f) now left
  pub quiet : IsQuietBelow left
  pub few : most_from left (root_of now r) (standing now)
      ≤ most_from u (root_of w r) (standing w) + length cells
  pub leaves : (c : CellSeen) → Contains (standing w) c → c.level ≡ 1 → Contains (standing now) c
  pub others : (c : CellSeen) → Contains (standing w) c → c.level ≤ 2 → c.id ≢ twig.id
      → Contains (standing now) c × (left c.level c.id ≡ u c.level c.id)
  pub come : (c : CellSeen) → Contains (numbered f.next cells) c
      → Contains (standing now) c × (c.level ≡ 1)
  pub taken : (c : CellSeen) → Contains (numbered f.next cells) c
      → (f.next ≤ c.id) × (c.id < (behind (among_turn twig cells) f).next)
  pub names : HaveNames (numbered f.next cells)
  pub stays : StaysOf f (behind (among_turn twig cells) f) w now
