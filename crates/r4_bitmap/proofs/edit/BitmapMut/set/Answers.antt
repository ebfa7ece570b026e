use Rattle.r4_bitmap.proofs.BitLaws.{set_one}
use Rattle.r4_bitmap.proofs.edit.BitmapMut.set.Goals as goal

pub returns-clause-bits : goal.returns-clause-bits
returns-clause-bits c = set_one c.args.self.now.block.now c.args.i c.args.self.now.whole c.requires
