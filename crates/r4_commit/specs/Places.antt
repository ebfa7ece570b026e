-- What becomes of the cells of an atom (docs/commit.md, "Plans").
use Rattle.std.specs.Prelude.{ℕ, List, [], ◌∷◌, ◌++◌, map, Option, Some, None, ◌==◌, if◌then◌else◌}
use Rattle.std.specs.Option.{option_or}
use Rattle.r4_base.specs.declared.things.BlockNo.{BlockNo}
use Rattle.r4_place.specs.r4_cell.Seen.{CellSeen}
use Rattle.r4_place.specs.declared.placed.How.{How}
use Rattle.r4_place.specs.declared.placed.How.TheVariants.{Fresh, Relocate, Overwrite}
use Rattle.r4_place.specs.declared.placed.Placed.{Placed}
use Rattle.r4_wander.specs.Seen.{Placed as PlacedCell}

-- the block that an answer gives, where it gives one
abbrev pub block_given : How → Option BlockNo
block_given (Fresh b) = Some b
block_given (Relocate b) = Some b
block_given Overwrite = None

-- the block that the answers give to the cell of a name, where they give it one; of two the later
abbrev pub place_of : List Placed → ℕ → Option BlockNo
place_of [] name = None
place_of (p ∷ ps) name = option_or (place_of ps name) (if p.node.0 == name then block_given p.how else None)

-- a cell with the block that it gets, where it gets one
abbrev pub placed_at : CellSeen → Option BlockNo → List PlacedCell
placed_at c (Some b) = record { at = b.0; cell = c } ∷ []
placed_at c None = []

-- a cell that gets no block
abbrev pub kept_at : CellSeen → Option BlockNo → List CellSeen
kept_at c (Some b) = []
kept_at c None = c ∷ []

-- the cells that get a block, each with it, where `place` says which block a name gets
abbrev pub placed_cells : (place : ℕ → Option BlockNo) → List CellSeen → List PlacedCell
placed_cells place [] = []
placed_cells place (c ∷ cs) = placed_at c (place c.id) ++ placed_cells place cs

-- the cells that keep their block, and are overwritten
abbrev pub overwritten : (place : ℕ → Option BlockNo) → List CellSeen → List CellSeen
overwritten place [] = []
overwritten place (c ∷ cs) = kept_at c (place c.id) ++ overwritten place cs

-- the blocks that are overwritten
abbrev pub overwritten_blocks : List Placed → List CellSeen → List ℕ
overwritten_blocks answers cells = map (λ c. c.id) (overwritten (place_of answers) cells)
