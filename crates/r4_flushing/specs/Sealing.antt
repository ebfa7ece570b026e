-- What changes of a core as an open atom is sealed that owns cells (docs/core.md, "Sealing").
use Rattle.std.specs.Prelude.{◌≡◌, ◌↔◌, ◌+◌, ◌-◌, ◌<◌, ◌≤◌, min, nat_eq, ℕ}
use Rattle.std.specs.Prelude.{List, map, Contains, Some, None}
use Rattle.std.specs.Prelude.{if◌then◌else◌}
use Rattle.std.specs.List.{IsDistinct}
use Rattle.r4_atoms.specs.Atoms.{AtomsSeen, IsOpenAtom, IsOpenIn, account_of, numbers, owner_of}
use Rattle.r4_atoms.specs.Atoms.{owns}
use Rattle.r4_atoms.specs.declared.things.Account.{Account}
use Rattle.r4_base.specs.declared.superblock.Super40.{Super40}
use Rattle.r4_base.specs.declared.things.AtomNo.{AtomNo}
use Rattle.r4_base.specs.declared.things.NodeId.{NodeId}
use Rattle.r4_renaming.specs.r4_buffer.Seen.{BufferSeen, cell_at}
use Rattle.r4_accounting.specs.r4_cell.Seen.{CellSeen}
use Rattle.r4_accounting.specs.r4_cell.declared.change.Root.{Root}
use Rattle.r4_renaming.specs.r4_flush.Prepared.{IsPrepared}
use Rattle.r4_renaming.specs.r4_flush.declared.preparing.Prepared.{Prepared}
use Rattle.r4_accounting.specs.r4_history.Tables.{with_sealed}
use Rattle.r4_renaming.specs.Renaming.{HaveNewNames, name_then, owner_then, turns_with_pins}
use Rattle.r4_space.specs.Space.{sealed_in}
use Rattle.r4_trace.specs.declared.entry.Entry.TheVariants.{Sealed}
use Rattle.r4_accounting.specs.r4_kept.History.{owed}
use Rattle.r4_accounting.specs.r4_kept.Steps.{with_entry}
use Rattle.r4_accounting.specs.r4_kept.View.{CoreSeen}

-- ---- the superblock to come

-- The root pair of what stands under the atom: that of the tree of all atoms exactly where the atom
-- owns the root's cell, else the committed one.
abbrev pub root_under : {D : Type 0} → CoreSeen D → (atom : ℕ) → Root
root_under c a =
    if owns c.atoms a c.tree.id.0 then c.tree else
    record {
      id = record { 0 = c.volume.super40.root_block };
      height = c.volume.super40.tree_height;
    }

-- how many objects there are with what the atom made and took away; the count stands still at
-- 2^64 - 1, which no volume comes to
abbrev pub files_with : (files : ℕ) → Account → ℕ
files_with files account = min (files + account.born) 18446744073709551615 - account.gone

abbrev pub super_to_come : {D : Type 0} → CoreSeen D → (atom : ℕ) → Super40
super_to_come c a = record c.volume.super40 {
  root_block = (root_under c a).id.0;
  tree_height = (root_under c a).height;
  oid = c.numbers.next_oid;
  file_count = files_with c.volume.super40.file_count (account_of c.atoms a);
}

-- ---- which atom is sealed

-- The atom is open, none of its transactions is, and it owns cells in memory. Nothing is being
-- committed, no call of the device failed, and there is room for its entries: that it is sealed,
-- that it is committed, and that a call fails.
pub record CanSeal {D : Type 0} (c : CoreSeen D) (a : AtomNo) : Type 0 where
  pub sound : c.broken ≡ None
  pub rest : c.commit ≡ None
  pub opened : IsOpenAtom c.atoms a.0
  pub closed : (t : ℕ) → IsOpenIn c.atoms a.0 t → ⊥
  pub some : 0 < (account_of c.atoms a.0).cells
  pub entries : owed c.turns + 3 ≤ c.trace.spare

-- Just the cells in memory that the atom owns, each once.
pub record AreCellsOf (b : BufferSeen) (s : AtomsSeen) (atom : ℕ) (cells : List CellSeen) : Type 0
  where
    pub different : IsDistinct nat_eq (map (λ (x : CellSeen). x.id) cells)
    pub just : (x : CellSeen) → Contains cells x
        ↔ ((owner_of s x.id ≡ Some atom) × (cell_at b x.id ≡ Some x))

-- ---- new names

abbrev pub root_renamed : (ℕ → ℕ) → Root → Root
root_renamed f root = record root { id = record { 0 = f root.id.0 } }

-- ---- the step

-- The atom is sealed, and the trace tells it. What was prepared for its cells, for the superblock
-- to come and for the head that the journal header names takes effect: its cells have the names of
-- their blocks, wherever they are named; the space has placed and held what it takes, and the atom
-- is sealed there; and its commit is under way, with the nodes that the atom owns then and the
-- plan. All else is as it was.
pub record HasSealed
    {D : Type 0} (old new : CoreSeen D) (a : AtomNo) (given : List CellSeen) (p : Prepared)
    : Type 0
  where
    pub cells_are : AreCellsOf old.buffer old.atoms a.0 given
    pub prepared : IsPrepared given a (super_to_come old a.0) old.volume.prev old.space p
    pub txns : new.atoms.txns ≡ old.atoms.txns
    pub states : new.atoms.atoms ≡ (with_sealed old.atoms a.0).atoms
    pub owners : (i : ℕ) → owner_of new.atoms i
        ≡ owner_then a.0 p.renamed.items i (owner_of old.atoms i)
    pub captures : old.atoms.spare ≤ new.atoms.spare
    pub cells : HaveNewNames old.buffer new.buffer p.renamed.items
    pub places : old.buffer.spare ≤ new.buffer.spare
    pub nodes : List NodeId
    pub owned : (i : ℕ) → Contains (numbers nodes) i ↔ (owner_of new.atoms i ≡ Some a.0)
    pub same : new ≡ record old {
      turns = turns_with_pins (name_then p.renamed.items) old.turns;
      atoms = new.atoms;
      buffer = new.buffer;
      space = sealed_in p.space a;
      tree = root_renamed (name_then p.renamed.items) old.tree;
      commit = Some (record { atom = a; nodes = nodes; work = Some p.plan });
      trace = with_entry old.trace (Sealed a);
    }
