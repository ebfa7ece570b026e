-- A reach of which something may be built (docs/volume.md, "Building").
use Rattle.std.specs.Prelude.{◌≡◌, ◌^◌, ◌+◌, ◌<◌, ◌≤◌, All, IsSome, None, false, length}
use Rattle.r4_base.specs.Cell.{cell_fault}
use Rattle.r4_base.specs.Key.{rank}
use Rattle.r4_cell.specs.Seen.{CellSeen}
use Rattle.r4_cell.specs.declared.change.Fresh.{Fresh}
use Rattle.r4_cell.specs.declared.change.Root.{Root}
use Rattle.r4_reaching.specs.declared.reached.Reach.{Reach}

-- a cell of the tests' device: it is accepted there, and its number is a block's
pub record IsBlock (c : CellSeen) : Type 0 where
  pub low : c.id < 64
  pub accepted : cell_fault false 64 c.level (rank c.lo) (rank c.hi) c.block ≡ None

-- the numbers that the tests lend, 64 for each block of the device
abbrev pub numbers : Fresh
numbers = record { next = 2 ^ 63; end = 2 ^ 63 + 4096 }

-- The cells that were met are the device's, and so is the root, which may rise where it has to.
pub record IsReady (root : Root) (reach : Reach) : Type 0 where
  pub from : 22 ≤ root.id.0
  pub below : root.id.0 < 64
  pub height : root.height ≤ 8
  pub low : IsSome reach.root → root.height < 8
  pub blocks : All IsBlock reach.met
  pub few : length reach.writes ≤ 64
