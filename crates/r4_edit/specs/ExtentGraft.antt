-- The small change of a twig, by pieces: behind the item of a fresh volume's leaf comes an extent (docs/volume.md, "Edits").
use Rattle.std.specs.Prelude.{◌-◌, ◌^◌, List, [], ◌∷◌}
use Rattle.r4_base.specs.Fresh.{root_key}
use Rattle.r4_path.specs.r4_branch.declared.piece.TwigPart.TheVariants.{Blocks, Pointer}
use Rattle.r4_path.specs.r4_branch.declared.piece.TwigPiece.{TwigPiece}
use Rattle.r4_path.specs.r4_cell.Seen.{CellSeen}
use Rattle.r4_path.specs.r4_cell.declared.change.Fresh.{Fresh}
use Rattle.r4_path.specs.ExtentPut.{data_cell, file_key, last_key, leaf_cell}
use Rattle.r4_path.specs.Twigs.{Below}

-- the pointer to the leaf, and the run of two blocks
abbrev pub put_pieces : List TwigPiece
put_pieces =
    record { key = root_key; part = Pointer (record { 0 = 23 }) }
    ∷ (record { key = file_key 0; part = Blocks (record { start = 24; width = 2 }) } ∷ [])

-- The leaf goes, and comes again with less range.
abbrev pub put_below : Below
put_below = record { old = leaf_cell last_key ∷ []; new = leaf_cell (file_key 0) ∷ [] }

abbrev pub put_blocks : List CellSeen
put_blocks = data_cell 0 ∷ (data_cell 1 ∷ [])

-- all numbers of nodes that have no block yet, but for the last
abbrev pub all_fresh : Fresh
all_fresh = record { next = 2 ^ 63; end = 2 ^ 64 - 1 }
