-- Room that a core makes before a step that may not want memory (docs/core.md, "Little steps").
use Rattle.std.specs.Prelude.{◌≡◌, ◌≤◌, ℕ}
use Rattle.r4_atoms.specs.Atoms.{owner_of}
use Rattle.r4_serve.specs.r4_buffer.Seen.{buffered}
use Rattle.r4_taking.specs.r4_kept.View.{CoreSeen}

-- There is more room, or as much, for entries, captures, cells in memory and claims; all else is as
-- it was.
pub record HasMoreRoom {D : Type 0} (old new : CoreSeen D) : Type 0 where
  pub entries : old.trace.spare ≤ new.trace.spare
  pub captures : old.atoms.spare ≤ new.atoms.spare
  pub places : old.buffer.spare ≤ new.buffer.spare
  pub claims : old.space.spare ≤ new.space.spare
  pub owners : (n : ℕ) → owner_of new.atoms n ≡ owner_of old.atoms n
  pub cells : (i : ℕ) → buffered new.buffer i ≡ buffered old.buffer i
  pub same : new ≡ record old {
    trace = record old.trace { spare = new.trace.spare };
    atoms = record old.atoms {
      captured = new.atoms.captured;
      spare = new.atoms.spare;
      txn_spare = new.atoms.txn_spare;
    };
    buffer = new.buffer;
    space = record old.space { spare = new.space.spare };
  }
