-- Data blocks that stand and get other bytes (docs/volume.md, "Bodies in extents"). A key is its rank.
use Rattle.std.specs.Prelude.{◌≡◌, ◌⊎◌, ℕ, ◌+◌, ◌<◌, ◌≤◌, ◌==◌, ◌&&◌, Bool, List, [], ◌∷◌, length, Contains, Option}
use Rattle.std.specs.Prelude.{None}
use Rattle.std.specs.List.{filter, list_any}
use Rattle.std.specs.Option.{is_some, option_map}
use Rattle.r4_base.specs.Key.{rank}
use Rattle.r4_base.specs.Tree.{Root, Store}
use Rattle.r4_base.specs.Value.{Byte, Value}
use Rattle.r4_twig_work.specs.r4_cell.Patch.{HaveNames}
use Rattle.r4_twig_work.specs.r4_cell.Seen.{CellSeen}
use Rattle.r4_twig_work.specs.r4_cell.declared.change.Fresh.{Fresh}
use Rattle.r4_content.specs.Edited.{Edits}
use Rattle.r4_extent_blocks.specs.Setting.{IsOverwritten, byte_set}
use Rattle.r4_twig_work.specs.r4_leaf.Units.{is_between}
use Rattle.r4_twig_work.specs.r4_measure.Budget.{Budget, most_from}
use Rattle.r4_twig_work.specs.r4_measure.Measured.{IsMeasured}
use Rattle.r4_twig_work.specs.r4_patch.Effect.{Placed, in_extent}
use Rattle.r4_twig_work.specs.r4_work.Working.{IsWorking, root_of, standing}
use Rattle.r4_twig_work.specs.r4_work.declared.working.WorkingSet.{WorkingSet}

-- The cell is a data block of 4096 bytes that stands in the set.
pub record IsStandingBlock (w : WorkingSet) (c : CellSeen) : Type 0 where
  pub stands : Contains (standing w) c
  pub level : c.level ≡ 0
  pub wide : rank c.hi ≡ rank c.lo + 4096
  pub whole : length c.block ≡ 4096

-- The set is one of this part of a tree, and these cells are such blocks, no two of one name.
pub record AreStandingBlocks (t : Store Value) (r : Root) (f : Fresh) (w : WorkingSet)
    (blocks : List CellSeen) : Type 0 where
  pub working : IsWorking t r f w
  pub numbers : f.next ≤ f.end
  pub each : (c : CellSeen) → Contains blocks c → IsStandingBlock w c
  pub names : HaveNames blocks

-- Each block after edits, in their order.
abbrev pub AreOverwritten : Edits → (olds news : List CellSeen) → Type 0
AreOverwritten e [] news = news ≡ []
AreOverwritten e (c ∷ cs) news = (d : CellSeen) × (ds : List CellSeen) × (news ≡ d ∷ ds)
    × IsOverwritten e c d × AreOverwritten e cs ds

-- The set is one of this part of a tree, and the data blocks among these cells are such blocks. No two cells have one
-- name.
pub record AreStandingCells (t : Store Value) (r : Root) (f : Fresh) (w : WorkingSet)
    (cells : List CellSeen) : Type 0 where
  pub working : IsWorking t r f w
  pub numbers : f.next ≤ f.end
  pub each : (c : CellSeen) → Contains cells c → c.level ≡ 0 → IsStandingBlock w c
  pub names : HaveNames cells

-- nothing is set in the cell
abbrev pub IsLeftAlone : Edits → CellSeen → Type 0
IsLeftAlone e c = (k : ℕ) → rank c.lo ≤ k → k < rank c.lo + 4096 → byte_set e k ≡ None

-- They are the data blocks among the cells, in their order, but for some in which nothing is set.
abbrev pub AreSetAmong : Edits → (cells blocks : List CellSeen) → Type 0
AreSetAmong e [] blocks = blocks ≡ []
AreSetAmong e (c ∷ cs) blocks =
    ((rest : List CellSeen) × (blocks ≡ c ∷ rest) × (c.level ≡ 0) × AreSetAmong e cs rest)
    ⊎ (((c.level ≡ 0) → IsLeftAlone e c) × AreSetAmong e cs blocks)

-- the data blocks among the cells
abbrev pub blocks_among : List CellSeen → List CellSeen
blocks_among cs = filter (λ (c : CellSeen). c.level == 0) cs

-- ---- what may still come

-- The set has the budget that it had, and no more cells may stand in the end than before. The root is the same.
pub record StaysMeasured (t : Store Value) (r : Root) (f : Fresh) (w now : WorkingSet) (b : Budget)
    : Type 0 where
  pub measured : IsMeasured t r f now b
  pub few : most_from b (root_of now r) (standing now) ≤ most_from b (root_of w r) (standing w)
  pub root : root_of now r ≡ root_of w r

-- ---- what that does to units

-- the key lies in one of the blocks
abbrev pub in_blocks : List CellSeen → (key : ℕ) → Bool
in_blocks cs k = list_any (λ (c : CellSeen). is_between (rank c.lo) (rank c.hi) k) cs

-- edits set a byte at the key, which lies in one of the blocks
abbrev pub is_set_in : Edits → List CellSeen → (key : ℕ) → Bool
is_set_in e cs k = in_blocks cs k && is_some (byte_set e k)

-- the byte that edits set at a key
abbrev pub value_set : Edits → (key : ℕ) → Option Value
value_set e k = option_map (λ (x : ℕ). Byte x) (byte_set e k)

-- it stands in a data block
abbrev pub bytes_set : Edits → (key : ℕ) → Option (Placed Value)
bytes_set e k = in_extent (value_set e k)
