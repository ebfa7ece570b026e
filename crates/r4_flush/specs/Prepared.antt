-- What a flush prepares (docs/durable.md, "From an open atom to its plan").
use Rattle.std.specs.Prelude.{◌≡◌, ℕ, List, map}
use Rattle.std.specs.Arc.{arc_value}
use Rattle.std.specs.List.Sorted.{IsPermutation}
use Rattle.r4_base.specs.declared.superblock.Super40.{Super40}
use Rattle.r4_base.specs.declared.things.AtomNo.{AtomNo}
use Rattle.r4_base.specs.declared.things.BlockNo.{BlockNo}
use Rattle.r4_cell.specs.Seen.{CellSeen}
use Rattle.r4_space.specs.Space.{Space}
use Rattle.r4_place.specs.Chosen.{AreChosen, placed_all}
use Rattle.r4_place.specs.declared.placed.Placed.{Placed}
use Rattle.r4_flushed.specs.r4_commit.Places.{place_of}
use Rattle.r4_flushed.specs.r4_commit.Planned.{CommitSeen, IsPlanned}
use Rattle.r4_flushed.specs.r4_placed.Flushing.{answers_by_block}
use Rattle.r4_work.specs.Order.{AreInOrder}
use Rattle.r4_flush.specs.Anew.{AreMade, IsCellAnew, new_name}
use Rattle.r4_flush.specs.declared.cells.RenamedCell.{RenamedCell}
use Rattle.r4_flush.specs.declared.preparing.Prepared.{Prepared}

-- It is the cell under its new name, with the name that the cell had.
pub record WasCell (f : ℕ → ℕ) (x : CellSeen) (r : RenamedCell) : Type 0 where
  pub was : r.was.0 ≡ x.id
  pub cell : IsCellAnew f x (arc_value r.cell)

-- the cells under the names of their blocks
abbrev pub cells_of : List RenamedCell → List CellSeen
cells_of renamed = map (λ r. arc_value r.cell) renamed

-- The plan is that for the cells and the answers under the names of the blocks.
abbrev pub IsPlannedByBlock : (old new : Space) → AtomNo → List RenamedCell → List Placed
    → Super40 → (last : BlockNo)
    → CommitSeen → Type 0
IsPlannedByBlock old new atom renamed answers next last c =
    IsPlanned old new atom (cells_of renamed) (answers_by_block answers) next last c

-- The cells in order, the answers that were chosen for them, and each cell named anew by these; the root so too; and
-- the plan for them, on the space with the chosen blocks placed.
pub record IsPrepared (given : List CellSeen) (atom : AtomNo) (next : Super40) (last : BlockNo)
    (space : Space)
    (p : Prepared) : Type 0 where
  pub cells : List CellSeen
  pub same : IsPermutation given cells
  pub order : AreInOrder cells
  pub answers : List Placed
  pub chosen : AreChosen 22 space cells answers
  pub renamed : AreMade (WasCell (new_name (place_of answers))) cells p.renamed.items
  pub root : p.root.0 ≡ new_name (place_of answers) next.root_block
  pub planned : IsPlannedByBlock (placed_all space answers) p.space atom p.renamed.items answers
      (record next { root_block = p.root.0 }) last p.plan
