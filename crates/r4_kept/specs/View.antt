-- What contracts see of a core: its device and its parts (docs/core.md).
use Rattle.std.specs.Prelude.{ℕ, Option}
use Rattle.std.specs.Option.{option_map}
use Rattle.r4_history.specs.r4_atoms.Atoms.{AtomsSeen}
use Rattle.r4_base.specs.Tree.{Root}
use Rattle.r4_buffer.specs.Seen.{BufferSeen}
use Rattle.r4_history.specs.r4_cell.declared.change.Root.{Root as RootPair}
use Rattle.r4_history.specs.Tables.{Tables}
use Rattle.r4_history.specs.r4_locks.Locks.{LocksSeen}
use Rattle.r4_durable.specs.r4_space.Space.{Space}
use Rattle.r4_history.specs.r4_trace.Kept.{Told}
use Rattle.r4_history.specs.r4_turns.Turns.{TurnsSeen}
use Rattle.r4_kept.specs.declared.parts.Commit.{Commit}
use Rattle.r4_kept.specs.declared.parts.Numbers.{Numbers}
use Rattle.r4_kept.specs.declared.parts.Volume.{Volume}

pub record CoreSeen (D : Type 0) : Type 0 where
  pub dev : D
  pub turns : TurnsSeen
  pub locks : LocksSeen
  pub atoms : AtomsSeen
  pub buffer : BufferSeen
  pub space : Space
  -- the root pair of the tree of all atoms
  pub tree : RootPair
  pub numbers : Numbers
  pub volume : Volume
  pub commit : Option Commit
  -- the clock of the call of the device that failed
  pub broken : Option ℕ
  pub trace : Told
  pub threshold : ℕ

-- the atom whose commit is under way
abbrev pub committing : Option Commit → Option ℕ
committing commit = option_map (λ (k : Commit). k.atom.0) commit

-- the tables that the trace tells of
abbrev pub tables_of : {D : Type 0} → CoreSeen D → Tables
tables_of c = record {
  turns = c.turns;
  atoms = c.atoms;
  commit = committing c.commit;
  broken = c.broken;
}

-- the number of blocks of the volume
abbrev pub blocks_of : {D : Type 0} → CoreSeen D → ℕ
blocks_of c = c.volume.super40.block_count

abbrev pub root_seen : RootPair → Root
root_seen root = record { id = root.id.0; height = root.height }
