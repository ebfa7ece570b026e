-- What is to be known of a core beside what holds of each, for an atom of it to be sealed
-- (docs/core.md, "Sealing").
use Rattle.std.specs.Prelude.{◌≡◌, ◌↔◌, ◌+◌, ◌++◌, ◌^◌, ◌<◌, ◌≤◌, ℕ, Contains, IsSome, List, None}
use Rattle.std.specs.Prelude.{Some, true}
use Rattle.std.specs.Arc.{arc_value}
use Rattle.r4_atoms.specs.Atoms.{account_of, owner_of}
use Rattle.r4_base.specs.Tree.{Name}
use Rattle.r4_base.specs.declared.things.AtomNo.{AtomNo}
use Rattle.r4_renaming.specs.r4_buffer.Seen.{IsLawful as AreNamed, buffered}
use Rattle.r4_accounting.specs.r4_cell.Seen.{CellSeen}
use Rattle.r4_closed.specs.Closed.{AreClosed, MayBeNamed}
use Rattle.r4_accounting.specs.r4_durable.Meaning.{Beginning, IsNamed}
use Rattle.r4_renaming.specs.r4_flush.Prepared.{IsPrepared}
use Rattle.r4_renaming.specs.r4_flush.declared.cells.RenamedCell.{RenamedCell}
use Rattle.r4_renaming.specs.r4_flush.declared.preparing.Prepared.{Prepared}
use Rattle.r4_accounting.specs.r4_history.Held.{AreOwners, IsOut}
use Rattle.r4_outside.specs.Device.{State}
use Rattle.r4_space.specs.Lawful.{IsLawful}
use Rattle.r4_space.specs.Space.{is_taken}
use Rattle.r4_renaming.specs.r4_turns.declared.out.Out.{Out}
use Rattle.r4_renaming.specs.r4_wander.Parts.{part}
use Rattle.r4_renaming.specs.r4_wander.Torn.{IsTarget}
use Rattle.r4_accounting.specs.r4_kept.Cells.{NamesAt}
use Rattle.r4_accounting.specs.r4_kept.Naming.{Naming, names_in}
use Rattle.r4_accounting.specs.r4_kept.View.{CoreSeen}
use Rattle.r4_flushing.specs.Sealing.{AreCellsOf, CanSeal, super_to_come}

-- ---- what can be looked up as an atom is sealed

-- Each block that the atom owns is used.
abbrev pub OwnsUsed : {D : Type 0} → CoreSeen D → AtomNo → Type 0
OwnsUsed c a = (i : ℕ) → owner_of c.atoms i ≡ Some a.0 → i < 2 ^ 63 → is_taken c.space i ≡ true

-- Nothing stands on a block: no cell in memory does, no atom owns it, and no task that is out was
-- given a cell there.
pub record IsClear {D : Type 0} (c : CoreSeen D) (block : ℕ) : Type 0 where
  pub cell : buffered c.buffer block ≡ None
  pub owner : owner_of c.atoms block ≡ None
  pub given : (s : ℕ) (out : Out) (x : CellSeen) → IsOut c.turns s out
      → Contains (out.reads ++ out.writes) x → x.id ≡ block → ⊥

-- So it is of the blocks that the first part of the commit writes, those of the log among them, and
-- of those that new cells get.
pub record AreClear {D : Type 0} (c : CoreSeen D) (p : Prepared) : Type 0 where
  pub written : (i : ℕ) → IsTarget (part p.plan.work.plan 0) i → IsClear c i
  pub renamed : (r : RenamedCell) → Contains p.renamed.items r → 2 ^ 63 ≤ r.was.0
      → IsClear c (arc_value r.cell).id

-- The atom may be sealed with what was prepared for its cells: these name each other where they are
-- new; its blocks are used, and the blocks that are taken up are clear. The next id is in the range
-- of ids, and the objects of the volume and those that the atom made are counted in 64 bits.
pub record MaySeal {D : Type 0} (c : CoreSeen D) (a : AtomNo) (p : Prepared) (cells : List CellSeen)
    : Type 0
  where
    pub can : CanSeal c a
    pub are : AreCellsOf c.buffer c.atoms a.0 cells
    pub prepared : IsPrepared cells a (super_to_come c a.0) c.volume.prev c.space p
    pub closed : AreClosed c.tree.id.0 cells
    pub own : OwnsUsed c a
    pub clear : AreClear c p
    pub ids : 65536 ≤ c.numbers.next_oid
    pub count : c.volume.super40.file_count + (account_of c.atoms a.0).born < 2 ^ 64

-- ---- what that gives

-- A cell in memory that names a new cell there is of the atom just where this one is.
abbrev pub AreNamedByOwn : {D : Type 0} → CoreSeen D → AtomNo → Type 0
AreNamedByOwn c a = (i : ℕ) (n : Name) → NamesAt c.buffer i n → 2 ^ 63 ≤ n.id
    → IsSome (buffered c.buffer n.id)
    → (owner_of c.atoms i ≡ Some a.0) ↔ (owner_of c.atoms n.id ≡ Some a.0)

-- What the parts know of themselves, before and after, and what was looked up.
pub record IsSealable
    {D : Type 0} (c new : CoreSeen D) (a : AtomNo) (cells : List CellSeen) (p : Prepared) : Type 0
  where
    pub space : IsLawful c.space
    pub buffer : AreNamed c.buffer
    pub after : AreNamed new.buffer
    pub owners : AreOwners c.atoms
    pub own : OwnsUsed c a
    pub clear : AreClear c p
    pub named : AreNamedByOwn c a
    pub may : MayBeNamed cells
    pub ids : 65536 ≤ c.numbers.next_oid

-- In a run that names its image the objects of the volume, and those that the atom made, are
-- counted in 64 bits.
abbrev pub CountFits : {D : Type 0} → Naming → State → CoreSeen D → AtomNo → Type 0
CountFits r d c a = (b : Beginning) → IsNamed (names_in r) d.blocks b
    → c.volume.super40.file_count + (account_of c.atoms a.0).born < 2 ^ 64
