-- What the turns of a growing body's twigs leave of a working set (docs/volume.md, "Bodies in extents").
use Rattle.std.specs.Prelude.{◌≡◌, ℕ, ◌+◌, ◌≤◌, List, [], Contains, Some, sum_by}
use Rattle.r4_base.specs.Tree.{Root, Store}
use Rattle.r4_base.specs.Value.{Value}
use Rattle.r4_content.specs.Edited.{Edits}
use Rattle.r4_build.specs.r4_measure.Budget.{AreUnplaced, Budget, most_from}
use Rattle.r4_build.specs.r4_measure.Grafting.{IsQuietBelow}
use Rattle.r4_build.specs.r4_measure.Measured.{IsMeasured}
use Rattle.r4_build.specs.r4_measure.r4_branch.Pieces.{twig_bytes}
use Rattle.r4_build.specs.r4_measure.r4_cell.Patch.{HaveNames}
use Rattle.r4_build.specs.r4_measure.r4_cell.Seen.{CellSeen, node_of}
use Rattle.r4_build.specs.r4_measure.r4_cell.declared.change.Fresh.{Fresh}
use Rattle.r4_build.specs.r4_measure.r4_path.Grafts.{extra_twigs}
use Rattle.r4_build.specs.r4_measure.r4_reach.Needs.{pieces_after}
use Rattle.r4_build.specs.r4_measure.r4_reach.Touched.{Body}
use Rattle.r4_build.specs.r4_measure.r4_work.Working.{root_of, standing}
use Rattle.r4_build.specs.r4_measure.r4_work.declared.working.WorkingSet.{WorkingSet}
use Rattle.r4_extent_loss.specs.r4_extent_build.Growing.{IsClearFor}
use Rattle.r4_extent_loss.specs.r4_extent_build.Looping.{IsTwigFor, behind_all, turns_of}
use Rattle.r4_extent_loss.specs.r4_extent_build.Turns.{growing_turn}
use Rattle.r4_extent_loss.specs.r4_extent_build.r4_twig_turns.Turning.{numbers_for}

-- Nothing stands in the twig where blocks of the body come; its pieces need no more than 16000 bytes afterwards, and
-- what comes beside it is in the budget.
pub record MayTurn (b : Body) (e : Edits) (u : Budget) (c : CellSeen) : Type 0 where
  pub twig : IsTwigFor b e c
  pub clear : IsClearFor b c
  pub bytes : twig_bytes (pieces_after (Some b) e (node_of c) []) ≤ 16000
  pub come : extra_twigs (pieces_after (Some b) e (node_of c) []) ≤ u 2 c.id

-- how many data blocks come into the twigs
abbrev pub blocks_coming : Body → Edits → List CellSeen → ℕ
blocks_coming b e twigs = sum_by (λ (c : CellSeen). (growing_turn b e c).blocks) twigs

-- The set is measured, nothing more comes below twigs, and these twigs of it may have their turns; no two have one
-- name, and there are numbers for them.
pub record MayTurnAll (b : Body) (e : Edits) (u : Budget) (t : Store Value) (r : Root) (f : Fresh)
    (w : WorkingSet) (twigs : List CellSeen) : Type 0 where
  pub measured : IsMeasured t r f w u
  pub quiet : IsQuietBelow u
  pub each : (c : CellSeen) → Contains twigs c → MayTurn b e u c
  pub stand : (c : CellSeen) → Contains twigs c → Contains (standing w) c
  pub names : HaveNames twigs
  pub unplaced : AreUnplaced f
  pub numbers : f.next + numbers_for (turns_of b e twigs) ≤ f.end

-- The set after it is measured for the numbers that are left, and still nothing more comes below twigs. In the end
-- there may be no more cells than before, and the blocks that came; each leaf that stood stands.
pub record LeavesLeaves (b : Body) (e : Edits) (u : Budget) (t : Store Value) (r : Root) (f : Fresh)
    (w now : WorkingSet) (twigs : List CellSeen) : Type 0 where
  pub left : Budget
  pub measured : IsMeasured t r (behind_all (turns_of b e twigs) f) now left
  pub quiet : IsQuietBelow left
  pub few : most_from left (root_of now r) (standing now)
      ≤ most_from u (root_of w r) (standing w) + blocks_coming b e twigs
  pub leaves : (c : CellSeen) → Contains (standing w) c → c.level ≡ 1 → Contains (standing now) c
