-- What becomes of the space as a task is done (docs/space.md).
use Rattle.std.specs.Prelude.{ℕ, List}
use Rattle.r4_accounting.specs.Accounting.{HasDeferred}
use Rattle.r4_base.specs.declared.things.AtomNo.{AtomNo}
use Rattle.r4_accounting.specs.r4_cell.Seen.{CellSeen}
use Rattle.r4_space.specs.Lawful.{IsLawful}
use Rattle.r4_space.specs.Space.{Space, charged}

-- The atom has these numbers, and the used blocks of the old cells that go are deferred for it.
pub record HasFreed
    (s later : Space) (atom : AtomNo) (cells fresh : ℕ) (old new : List CellSeen) : Type 0 where
  pub lawful : IsLawful later
  pub deferred : HasDeferred (charged s atom cells fresh) later atom old new
