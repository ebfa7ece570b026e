-- What is wrong with an image, in the words that are printed (docs/program.md, "Lines and statuses").
use Rattle.std.specs.Prelude.{ℕ, List, codes}
use Rattle.r4_base.specs.declared.items.CellFault.{CellFault}
use Rattle.r4_base.specs.declared.items.CellFault.TheVariants.{Node, Stat, Dir, Extent, Tail, Pointer, Level, Range as KeyRange}
use Rattle.r4_base.specs.declared.journal.LogFault.{LogFault}
use Rattle.r4_base.specs.declared.journal.LogFault.TheVariants.{Range, HeadMagic, Total, Long, RecordMagic, Id, Serial, Pairs, Circle, Overlap}
use Rattle.r4_base.specs.declared.superblock.LayoutFault.{LayoutFault}
use Rattle.r4_base.specs.declared.superblock.LayoutFault.TheVariants.{Magic, BlockSize, Profile, Height, Count, Bitmap}

-- with its log
abbrev pub log_word_of : LogFault → List ℕ
log_word_of Range = codes "range"
log_word_of HeadMagic = codes "head magic"
log_word_of Total = codes "total"
log_word_of Long = codes "long"
log_word_of RecordMagic = codes "record magic"
log_word_of Id = codes "id"
log_word_of Serial = codes "serial"
log_word_of Pairs = codes "pairs"
log_word_of Circle = codes "circle"
log_word_of Overlap = codes "overlap"

-- with its superblocks and bitmaps
abbrev pub layout_word_of : LayoutFault → List ℕ
layout_word_of Magic = codes "magic"
layout_word_of BlockSize = codes "block size"
layout_word_of Profile = codes "profile"
layout_word_of Height = codes "height"
layout_word_of Count = codes "count"
layout_word_of Bitmap = codes "bitmap"

-- with a cell
abbrev pub cell_word_of : CellFault → List ℕ
cell_word_of (Node f) = codes "node"
cell_word_of (Stat f) = codes "stat"
cell_word_of (Dir f) = codes "dir"
cell_word_of (Extent f) = codes "extent"
cell_word_of Tail = codes "tail"
cell_word_of Pointer = codes "pointer"
cell_word_of Level = codes "level"
cell_word_of (KeyRange item) = codes "key range"
