-- For what a core has room (docs/core.md, "Room").
use Rattle.std.specs.Prelude.{◌+◌, ◌≤◌}
use Rattle.r4_ready.specs.r4_kept.Accounts.{cells_owed, claims_owed}
use Rattle.r4_ready.specs.r4_kept.History.{owed, owed_for_commit}
use Rattle.r4_ready.specs.r4_kept.View.{CoreSeen}
use Rattle.r4_start.specs.r4_rooms.declared.making.Wanted.{Wanted}

-- It has room for what is wanted, beside the entries that may not want memory and what tasks that
-- are out may still use up; and for one more transaction.
pub record HasRoomFor {D : Type 0} (w : Wanted) (c : CoreSeen D) : Type 0 where
  pub entries : owed c.turns + owed_for_commit c.commit + w.entries ≤ c.trace.spare
  pub captures : cells_owed c.turns.turns + w.cells ≤ c.atoms.spare
  pub places : cells_owed c.turns.turns + w.cells + w.met ≤ c.buffer.spare
  pub claims : claims_owed c.turns.turns + w.claims ≤ c.space.spare
  pub txns : 1 ≤ c.atoms.txn_spare
