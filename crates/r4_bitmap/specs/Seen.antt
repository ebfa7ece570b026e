-- What a bitmap that is read, and one that is written, show: their bytes, and their bits.
use Rattle.std.specs.Prelude.{ℕ, List, Bool}
use Rattle.std.specs.Borrow.{GName}
use Rattle.r4_base.specs.Bitmap.{bits_of}
use Rattle.r4_bitmap.specs.declared.edit.BitmapMut.{BitmapMut}
use Rattle.r4_bitmap.specs.declared.view.BitmapView.{BitmapView}

abbrev pub view_bytes : BitmapView → List ℕ
view_bytes v = v.block.now

abbrev pub view_bits : BitmapView → List Bool
view_bits v = bits_of v.block.now

abbrev pub mut_bytes : BitmapMut → List ℕ
mut_bytes m = m.block.now

abbrev pub mut_bits : BitmapMut → List Bool
mut_bits m = bits_of m.block.now

-- the loan of the block
abbrev pub mut_name : BitmapMut → GName
mut_name m = m.block.ghost_name
