-- What the flush of an atom leaves (docs/core.md, "Flushing").
use Rattle.std.specs.Prelude.{◌≡◌, ◌⊎◌, ℕ, List, Some}
use Rattle.r4_atoms.specs.Atoms.{owner_of}
use Rattle.r4_base.specs.declared.things.AtomNo.{AtomNo}
use Rattle.r4_base.specs.declared.things.ScriptNo.{ScriptNo}
use Rattle.r4_cell.specs.Seen.{CellSeen}
use Rattle.r4_core.specs.r4_flush.declared.preparing.Prepared.{Prepared}
use Rattle.r4_core.specs.r4_flushing.Sealable.{MaySeal}
use Rattle.r4_core.specs.r4_flushing.Sealing.{HasSealed}
use Rattle.r4_core.specs.r4_kept.Steps.{sealed_empty}
use Rattle.r4_core.specs.r4_kept.View.{CoreSeen}
use Rattle.r4_core.specs.r4_ready.Rooms.{HasMoreRoom}
use Rattle.r4_seal.specs.Waiting.{AreWaiting, all_refused}

-- Room was made, and the atom is sealed that owns nothing: its commit writes nothing.
pub record IsSealedEmpty {D : Type 0} (old new : CoreSeen D) (atom : AtomNo) : Type 0 where
  pub none : (i : ℕ) → owner_of old.atoms i ≡ Some atom.0 → ⊥
  pub roomy : CoreSeen D
  pub room : HasMoreRoom old roomy
  pub sealed : new ≡ sealed_empty roomy atom

-- Room was made, and the atom is sealed with what was prepared for its cells.
pub record IsSealedWith {D : Type 0} (old new : CoreSeen D) (atom : AtomNo) : Type 0 where
  pub roomy : CoreSeen D
  pub room : HasMoreRoom old roomy
  pub cells : List CellSeen
  pub prepared : Prepared
  pub may : MaySeal roomy atom prepared cells
  pub sealed : HasSealed roomy new atom cells prepared

abbrev pub IsFlushed : {D : Type 0} → (old new : CoreSeen D) → AtomNo → Type 0
IsFlushed old new atom = IsSealedEmpty old new atom ⊎ IsSealedWith old new atom

-- There may be more room, and just the commands that wait for the atom are refused.
pub record RefusesWaiting {D : Type 0} (old new : CoreSeen D) (atom : AtomNo) : Type 0 where
  pub roomy : CoreSeen D
  pub room : HasMoreRoom old roomy
  pub scripts : List ScriptNo
  pub waiting : AreWaiting roomy atom.0 scripts
  pub refused : new ≡ all_refused roomy scripts
