-- An open atom that may be sealed is sealed: what holds of a core holds still.
use Rattle.std.specs.Prelude.{List}
use Rattle.r4_base.specs.declared.things.AtomNo.{AtomNo}
use Rattle.r4_renaming.specs.r4_buffer.Seen.{IsLawful as AreNamed}
use Rattle.r4_accounting.specs.r4_cell.Seen.{CellSeen}
use Rattle.r4_renaming.specs.r4_flush.declared.preparing.Prepared.{Prepared}
use Rattle.r4_renaming.proofs.r4_flushed.FlushedCells.{FitsOnDisk}
use Rattle.r4_accounting.specs.r4_history.Held.{AreOwners}
use Rattle.r4_outside.specs.Device.{State}
use Rattle.r4_space.specs.Lawful.{IsLawful}
use Rattle.r4_accounting.specs.r4_kept.Kept.{IsKept}
use Rattle.r4_accounting.specs.r4_kept.Naming.{Naming}
use Rattle.r4_accounting.specs.r4_kept.View.{CoreSeen}
use Rattle.r4_flushing.specs.Sealable.{MaySeal}
use Rattle.r4_flushing.specs.Sealing.{HasSealed}
use Rattle.r4_flushing.proofs.Closed.{named_when_closed}
use Rattle.r4_flushing.proofs.Sealed.{keeps_sealed}

pub keeps_may_seal : {D : Type 0} → FitsOnDisk → (r : Naming) (d : State) (c new : CoreSeen D) (a : AtomNo)
    (given : List CellSeen) (p : Prepared) → IsKept r d c → MaySeal c a p given → HasSealed c new a given p
    → IsLawful c.space → AreNamed c.buffer → AreNamed new.buffer → AreOwners c.atoms → IsKept r d new
keeps_may_seal disk r d c new a given p k may has space buffer after owners =
    keeps_sealed disk r d c new a given p k may.can has
    (record {
      space = space;
      buffer = buffer;
      after = after;
      owners = owners;
      own = may.own;
      clear = may.clear;
      named = named_when_closed r d c a given k may.can may.are buffer may.closed.named;
      may = may.closed.may;
      ids = may.ids;
    })
    (λ b named. may.count)
