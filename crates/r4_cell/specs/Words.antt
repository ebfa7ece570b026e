-- What is wrong with an image, in the words that are printed (docs/program.md, "Lines and statuses").
use Rattle.std.specs.Prelude.{ℕ, List}
use Rattle.r4_base.specs.Words.{cell_word_of, layout_word_of}
use Rattle.r4_cell.specs.declared.refused.ImageFault.{ImageFault}
use Rattle.r4_cell.specs.declared.refused.ImageFault.TheVariants.{Layout, Cell}

-- of the superblocks and bitmaps, or of a cell
abbrev pub image_word_of : ImageFault → List ℕ
image_word_of (Layout f) = layout_word_of f
image_word_of (Cell f) = cell_word_of f
