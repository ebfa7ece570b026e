-- What is looked up before an atom is sealed (docs/core.md, "Flushing").
use Rattle.std.specs.Prelude.{◌≡◌, ◌+◌, ◌^◌, ◌<◌, ◌≤◌, All, List, true}
use Rattle.std.specs.Arc.{arc_value}
use Rattle.r4_atoms.specs.Atoms.{account_of}
use Rattle.r4_base.specs.declared.things.AtomNo.{AtomNo}
use Rattle.r4_base.specs.declared.things.BlockNo.{BlockNo}
use Rattle.r4_base.specs.declared.things.NodeId.{NodeId}
use Rattle.r4_core.specs.r4_flush.declared.cells.RenamedCell.{RenamedCell}
use Rattle.r4_core.specs.r4_flushing.Sealable.{IsClear}
use Rattle.r4_core.specs.r4_kept.View.{CoreSeen}
use Rattle.r4_space.specs.Space.{Space, is_taken}

-- each of these nodes that is a block is used
abbrev pub IsUsedNode : Space → NodeId → Type 0
IsUsedNode space node = node.0 < 2 ^ 63 → is_taken space node.0 ≡ true

abbrev pub AreUsed : Space → List NodeId → Type 0
AreUsed space nodes = All (IsUsedNode space) nodes

-- nothing stands on these blocks
abbrev pub AreClearBlocks : {D : Type 0} → CoreSeen D → List BlockNo → Type 0
AreClearBlocks c blocks = All (λ (b : BlockNo). IsClear c b.0) blocks

-- nor on those that new cells get
abbrev pub GetsClear : {D : Type 0} → CoreSeen D → RenamedCell → Type 0
GetsClear c r = 2 ^ 63 ≤ r.was.0 → IsClear c (arc_value r.cell).id

abbrev pub AreClearNames : {D : Type 0} → CoreSeen D → List RenamedCell → Type 0
AreClearNames c renamed = All (GetsClear c) renamed

-- The atom has cells; the next id is in the range of ids; and the objects of the volume, with those
-- that the atom made, are counted in 64 bits.
pub record AreCounted {D : Type 0} (c : CoreSeen D) (a : AtomNo) : Type 0 where
  pub some : 0 < (account_of c.atoms a.0).cells
  pub ids : 65536 ≤ c.numbers.next_oid
  pub count : c.volume.super40.file_count + (account_of c.atoms a.0).born < 2 ^ 64
