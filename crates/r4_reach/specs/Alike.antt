-- Trees in which the same cells are reached (docs/volume.md, "Reach").
use Rattle.std.specs.Prelude.{◌≡◌, ℕ, ◌<◌, ◌≤◌, List, All, Some, Option, false}
use Rattle.r4_base.specs.Tree.{IsTree, Root, Store}
use Rattle.r4_base.specs.Value.{Value}
use Rattle.r4_path.specs.r4_cell.Patch.{IsPatch, Leaves, Meets, Patch, place}
use Rattle.r4_content.specs.Edited.{Edits, Intervals}
use Rattle.r4_path.specs.r4_patch.Part.{IsPart}
use Rattle.r4_reach.specs.Demand.{Demand, IsPlain, ask}
use Rattle.r4_reach.specs.Enough.{LeadsUp, Numbered}
use Rattle.r4_reach.specs.Needs.{Ask, changes_pieces, come_of, demand_of}
use Rattle.r4_reach.specs.Reach.{HasReached, HasRoot, HasTouched, IsReached, IsRootAsking}
use Rattle.r4_reach.specs.Touched.{Body}

-- Parts of trees. The first has all that is touched, and the second each cell that is reached in the first.
pub record SharesReach {A : Type 0} (d : Demand A) (t u : Store Value) (root other : Root) : Type 0 where
  pub plain : IsPlain d
  pub first : IsPart t root
  pub second : IsPart u other
  pub touched : HasTouched d t
  pub reached : HasReached d t u
  pub rises : HasRoot d t root other

-- Trees, of which the second has each cell that is reached in the first.
pub record AreTreesAlike {A : Type 0} (d : Demand A) (t u : Store Value) (root other : Root) : Type 0 where
  pub plain : IsPlain d
  pub first : IsTree t root
  pub second : IsTree u other
  pub reached : HasReached d t u

-- A change of others: a patch that the tree meets, and that has none of the cells which are reached with it in place.
pub record IsOfOthers {A : Type 0} (d : Demand A) (q : Patch Value) (u : Store Value) (root : Root) : Type 0 where
  pub plain : IsPlain d
  pub tree : IsTree u root
  pub patch : IsPatch q
  pub meets : Meets q u root
  pub apart : (i : ℕ) → IsReached d (place q u) i → Leaves q i

-- A cell, those above it up to the root, and what it asks of them. No blocks come, and no pieces of the twigs among
-- them change.
pub record AsksAbove (b : Option Body) (e : Edits) (reads rs : Intervals) (t : Store Value) (root : Root)
    (c : Numbered)
    (ups : List Numbered) (a : Ask) : Type 0 where
  pub quiet : come_of b ≡ (0, 0)
  pub part : IsPart t root
  pub stands : t c.0 ≡ Some c.1
  pub node : 1 ≤ c.1.level
  pub leads : LeadsUp t root c ups
  pub still : All (λ (x : Numbered). x.1.level ≡ 2 → changes_pieces b e x.1 ≡ false) ups
  pub asks : ask (demand_of b e reads rs) t c.1.level c.1 ≡ Some a
  -- the height can rise where the root asks for something
  pub low : (x : Ask) → IsRootAsking (demand_of b e reads rs) t root x → root.height < 8
