-- What is prepared, as the flush of an open atom of a session (docs/durable.md, "From an open atom to its plan").
use Rattle.std.specs.Prelude.{◌≡◌, ℕ, ◌^◌, List, map, Contains, true, Some, None}
use Rattle.std.specs.Arc.{arc_value}
use Rattle.r4_base.specs.Cell.{cell_fault}
use Rattle.r4_base.specs.Image.{Image}
use Rattle.r4_base.specs.Key.{rank}
use Rattle.r4_base.specs.Tree.{Name, Node}
use Rattle.r4_base.specs.Value.{Value}
use Rattle.r4_base.specs.declared.superblock.Super40.{Super40}
use Rattle.r4_base.specs.declared.things.AtomNo.{AtomNo}
use Rattle.r4_base.specs.declared.things.BlockNo.{BlockNo}
use Rattle.r4_cell.specs.Seen.{CellSeen, node_of}
use Rattle.r4_space.specs.Space.{Space}
use Rattle.r4_place.specs.Chosen.{fresh_blocks}
use Rattle.r4_place.specs.declared.placed.Placed.{Placed}
use Rattle.r4_flushed.specs.r4_sets.Session.{Session}
use Rattle.r4_flushed.specs.r4_placed.Flushing.{Flushing}
use Rattle.r4_flush.specs.declared.cells.RenamedCell.{RenamedCell}
use Rattle.r4_flush.specs.declared.preparing.Prepared.{Prepared}

-- a cell with the bytes that are written, under the name that it had
abbrev pub flushed_cell : RenamedCell → CellSeen
flushed_cell r = record (arc_value r.cell) { id = r.was.0 }

abbrev pub flushed_cells : List RenamedCell → List CellSeen
flushed_cells renamed = map flushed_cell renamed

-- the flush that was prepared, on an image
abbrev pub flushing_of : (base : Image) (space : Space) → AtomNo → (answers : List Placed)
    → Super40 → (last : BlockNo)
    → Prepared → Flushing
flushing_of base space atom answers next last p = record {
  base = base;
  space = space;
  atom = atom;
  cells = flushed_cells p.renamed.items;
  answers = answers;
  next = record next { root_block = p.root.0 };
  last = last;
}

-- The cells are those that the atom owns in memory, and each may stand in memory on 2^63 blocks.
pub record AreOwnCells (c : Session) (atom : AtomNo) (cells : List CellSeen) : Type 0 where
  pub mine : (i : ℕ) (d : Node Value) → c.owner i ≡ Some atom.0 → c.memory i ≡ Some d
      → (x : CellSeen) × Contains cells x × (x.id ≡ i)
  pub owned : (x : CellSeen) → Contains cells x
      → (c.owner x.id ≡ Some atom.0) × (c.memory x.id ≡ Some (node_of x))
  pub stands : (x : CellSeen) → Contains cells x
      → cell_fault true (2 ^ 63) x.level (rank x.lo) (rank x.hi) x.block ≡ None

-- no cell names a block that was chosen
abbrev pub NameNoneChosen : List CellSeen → List Placed → Type 0
NameNoneChosen cells answers = (x : CellSeen) (z : Name) → Contains cells x
    → Contains (node_of x).names z
    → Contains (fresh_blocks answers) z.id → ⊥
