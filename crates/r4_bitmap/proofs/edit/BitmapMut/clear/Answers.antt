use Rattle.r4_bitmap.proofs.BitLaws.{clear_one}
use Rattle.r4_bitmap.proofs.edit.BitmapMut.clear.Goals as goal

pub returns-clause-bits : goal.returns-clause-bits
returns-clause-bits c = clear_one c.args.self.now.block.now c.args.i c.args.self.now.whole c.requires
