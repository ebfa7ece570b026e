-- A pool that keeps nothing of what it answers: some cells are kept beforehand, and each other name means a block of a
-- device (docs/volume.md, "The tree").
use Rattle.std.specs.Prelude.{◌≡◌, ℕ, ◌==◌, ◌&&◌, false, length, List, Bool, Option, Some, None, Result, Ok, Err}
use Rattle.std.specs.Prelude.{if◌then◌else◌}
use Rattle.std.specs.List.{list_all}
use Rattle.r4_base.specs.Cell.{cell_fault}
use Rattle.r4_base.specs.Image.{Image, block_at}
use Rattle.r4_base.specs.Key.{rank}
use Rattle.r4_base.specs.Tree.{Name}
use Rattle.r4_outside.specs.Device.{State}
use Rattle.r4_cell.specs.Seen.{CellSeen}
use Rattle.r4_search.specs.Pool.{IsNamed, PoolState}
use Rattle.r4_search.specs.declared.pool.FetchFault.{FetchFault}
use Rattle.r4_search.specs.declared.pool.FetchFault.TheVariants.{Read, Damaged, Memory}

-- whether it is an image of n blocks
abbrev pub is_image : ℕ → Image → Bool
is_image n image = length image == n && list_all (λ b. length b == 4096) image

-- the block that a name means by its home on the device, where the device tells what reading gives
abbrev pub block_there : State → (home : ℕ → ℕ) → ℕ → Option (List ℕ)
block_there d home i = if is_image d.blocks d.seen then Some (block_at d.seen (home i)) else None

-- where the cells of names are: the root's name, the number of blocks, where each block is at home, and which cells are
-- kept
pub record Places : Type 0 where
  pub root : Name
  pub blocks : ℕ
  pub home : ℕ → ℕ
  pub kept : ℕ → Option CellSeen

abbrev pub device_state : Places → State → PoolState
device_state at d = record {
  root = at.root;
  blocks = at.blocks;
  faults = d.faults;
  kept = at.kept;
  meant = block_there d at.home;
  met = λ i. None;
  keeps = λ level. false;
}

-- What is made of a block that was read for a name: the cell, or why it is refused.
abbrev pub IsMadeOf : {T : Type 0} → (T → CellSeen) → (blocks : ℕ) → Name → List ℕ → Result T FetchFault → Type 0
IsMadeOf seen blocks n b (Ok x) = IsNamed n (seen x) × ((seen x).block ≡ b)
    × (cell_fault false blocks (seen x).level (rank (seen x).lo) (rank (seen x).hi) b ≡ None)
IsMadeOf seen blocks n b (Err (Read at faults)) = ⊥
IsMadeOf seen blocks n b (Err (Damaged at f)) =
    (at.0 ≡ n.id) × (cell_fault false blocks n.level n.lo n.hi b ≡ Some f)
IsMadeOf seen blocks n b (Err Memory) = Unit {0}
