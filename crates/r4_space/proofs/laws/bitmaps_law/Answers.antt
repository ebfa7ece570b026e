use Rattle.r4_space.proofs.BitmapLaws.{same_fault}
use Rattle.r4_space.proofs.laws.bitmaps_law.Goals as goal

pub returns : goal.returns
returns c blocks free image bitmaps are = same_fault blocks free image bitmaps are
