-- A change that brings what has keys of a range below one twig (docs/volume.md, "Bodies in
-- extents"). A key is its rank.
use Rattle.std.specs.Prelude.{◌≡◌, ◌⊎◌, ℕ, ◌<◌, ◌≤◌, ◌==◌, ◌&&◌, nat_le, Bool, false, List, ◌++◌}
use Rattle.std.specs.Prelude.{Contains, None, Some}
use Rattle.r4_base.specs.Key.{rank}
use Rattle.r4_base.specs.Tree.{Name, Root, Store}
use Rattle.r4_base.specs.Value.{Value}
use Rattle.r4_work.specs.r4_cell.Patch.{HaveNames, IsChange}
use Rattle.r4_work.specs.r4_cell.Seen.{CellSeen, node_of}
use Rattle.r4_work.specs.r4_cell.declared.change.Change.{Change}
use Rattle.r4_work.specs.r4_patch.Effect.{HasEffect}
use Rattle.r4_work.specs.r4_patch.Following.{without}
use Rattle.r4_work.specs.r4_patch.Joining.{ids_of, patch_of_change}
use Rattle.r4_work.specs.r4_patch.Part.{IsPart, MeetsPart}
use Rattle.r4_row_gather.specs.declared.gathering.Gathered.{Gathered}

-- The cells stand in this part of a tree.
pub record StandIn (t : Store Value) (r : Root) (cells : List CellSeen) : Type 0 where
  pub part : IsPart t r
  pub stand : (c : CellSeen) → Contains cells c → t c.id ≡ Some (node_of c)

-- The change is one that this part of a tree meets, and no unit changes or comes to stand in
-- another kind of cell.
pub record IsStill (t : Store Value) (r : Root) (c : Change) : Type 0 where
  pub change : IsChange c.old c.new c.root
  pub meets : MeetsPart (patch_of_change c) t r
  pub effect : HasEffect (patch_of_change c) (λ k. false) (λ k. None)

-- the cell is a twig that has all keys of the range
abbrev pub is_twig_of : (from to : ℕ) → CellSeen → Bool
is_twig_of from to c = c.level == 2 && (nat_le (rank c.lo) from && nat_le to (rank c.hi))

-- One of the cells is a twig that has all keys of the range.
pub record HasTwigOf (cells : List CellSeen) (from to : ℕ) : Type 0 where
  pub twig : CellSeen
  pub is : Contains cells twig
  pub level : twig.level ≡ 2
  pub begins : rank twig.lo ≤ from
  pub ends : to ≤ rank twig.hi

-- Of some cells of a part of a tree come others, with numbers of theirs. No unit changes or comes to
-- stand in another kind of cell, and the root stays.
pub record StaysStill (cells : List CellSeen) (g : Gathered) : Type 0 where
  pub still : (t : Store Value) (r : Root) → StandIn t r cells → IsStill t r g.change
  pub root : g.change.root ≡ None
  pub old : (c : CellSeen) → Contains g.change.old c → Contains cells c
  pub new : (c : CellSeen) → Contains g.change.new c → Contains (ids_of g.change.old) c.id
  pub stand : g.cells ≡ g.change.new ++ without (ids_of g.change.old) cells
  pub names : (t : Store Value) (r : Root) → StandIn t r cells → HaveNames cells
      → HaveNames g.cells

-- And all keys of the range are below one twig that comes.
pub record IsBroughtBelow (cells : List CellSeen) (from to : ℕ) (g : Gathered) : Type 0 where
  pub stays : StaysStill cells g
  pub below : HasTwigOf g.change.new from to

-- And where leaves go for that, no leaf begins in the range that a new twig names.
pub record IsGathered (cells : List CellSeen) (from to : ℕ) (g : Gathered) : Type 0 where
  pub brought : IsBroughtBelow cells from to g
  pub way : (c : CellSeen) → Contains g.change.old c → c.level ≡ 1 → (d : CellSeen)
      → Contains g.change.new d → d.level ≡ 2 → (n : Name) → Contains (node_of d).names n
      → n.level ≡ 1 → (n.lo < from) ⊎ (to ≤ n.lo)
