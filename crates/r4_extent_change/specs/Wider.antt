-- Leaves that go on with a range that reaches further (docs/volume.md, "Bodies in extents"). A key is its rank.
use Rattle.std.specs.Prelude.{◌≡◌, ◌≤◌, Contains}
use Rattle.r4_base.specs.Key.{rank}
use Rattle.r4_build.specs.r4_measure.r4_cell.Seen.{CellSeen}
use Rattle.r4_build.specs.r4_measure.r4_work.Working.{standing}
use Rattle.r4_build.specs.r4_measure.r4_work.declared.working.WorkingSet.{WorkingSet}

-- The second cell is the first under its number, with the same block; its range may reach further.
pub record IsWider (c d : CellSeen) : Type 0 where
  pub id : d.id ≡ c.id
  pub level : d.level ≡ c.level
  pub lo : rank d.lo ≡ rank c.lo
  pub hi : rank c.hi ≤ rank d.hi
  pub block : d.block ≡ c.block

-- such a cell stands
abbrev pub GoesOn : WorkingSet → CellSeen → Type 0
GoesOn w c = (d : CellSeen) × Contains (standing w) d × IsWider c d
