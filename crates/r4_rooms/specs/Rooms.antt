-- Room in the parts of a core for a step that may not want memory (docs/core.md, "Room").
use Rattle.std.specs.Prelude.{◌≡◌, ◌+◌, ◌≤◌, ℕ, List}
use Rattle.r4_atoms.specs.Atoms.{AtomsSeen, owner_of}
use Rattle.r4_kept.specs.r4_buffer.Seen.{BufferSeen, buffered}
use Rattle.r4_kept.specs.Accounts.{cells_owed, claims_owed}
use Rattle.r4_rooms.specs.declared.making.Wanted.{Wanted}
use Rattle.r4_rooms.specs.declared.owing.Owed.{Owed}
use Rattle.r4_space.specs.Space.{Space}
use Rattle.r4_trace.specs.Kept.{Told}
use Rattle.r4_turns.specs.declared.turn.Turn.{Turn}

-- all that tasks that are out were given room for
pub record AreOwed (turns : List Turn) (o : Owed) : Type 0 where
  pub cells : o.cells ≡ cells_owed turns
  pub claims : o.claims ≡ claims_owed turns

-- ---- what changes of a part: there is as much room, or more

abbrev pub HasMoreEntries : (old new : Told) → Type 0
HasMoreEntries old new = (old.spare ≤ new.spare) × (new ≡ record old { spare = new.spare })

pub record HasMoreCaptures (old new : AtomsSeen) : Type 0 where
  pub room : old.spare ≤ new.spare
  pub txn_room : old.txn_spare ≤ new.txn_spare
  pub txns : new.txns ≡ old.txns
  pub atoms : new.atoms ≡ old.atoms
  pub owners : (n : ℕ) → owner_of new n ≡ owner_of old n

pub record HasMorePlaces (old new : BufferSeen) : Type 0 where
  pub room : old.spare ≤ new.spare
  pub cells : (i : ℕ) → buffered new i ≡ buffered old i

abbrev pub HasMoreClaims : (old new : Space) → Type 0
HasMoreClaims old new = (old.spare ≤ new.spare) × (new ≡ record old { spare = new.spare })

-- ---- what there is room for then

-- What is wanted, beside the entries that there was room for, and what tasks may still use up; and
-- one more transaction.
pub record HasRooms
    (turns : List Turn) (w : Wanted) (told trace : Told) (atoms : AtomsSeen) (buffer : BufferSeen)
    (space : Space) : Type 0
  where
    pub entries : told.spare + w.entries ≤ trace.spare
    pub captures : cells_owed turns + w.cells ≤ atoms.spare
    pub places : cells_owed turns + w.cells + w.met ≤ buffer.spare
    pub claims : claims_owed turns + w.claims ≤ space.spare
    pub txns : 1 ≤ atoms.txn_spare
