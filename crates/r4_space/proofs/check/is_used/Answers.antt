use Rattle.std.proofs.Common.{◌≡◌, ◌∙◌, sym, Some}
use Rattle.std.specs.Prelude.{slice_get}
use Rattle.r4_base.specs.Bitmap.{bits_of, is_used}
use Rattle.r4_base.proofs.Bits.{get-bits_of}
use Rattle.r4_space.proofs.check.is_used.Goals as goal

pub returns : goal.returns
returns c =
    let got : slice_get (bits_of c.args.block.now) c.args.i ≡ Some c.get.result = rw c.new.ensures at c.get.ensures in
    let same : Some c.get.result ≡ Some (is_used c.args.block.now c.args.i) = sym got ∙ get-bits_of c.args.i c.args.block.now c.requires.within in
    cc
