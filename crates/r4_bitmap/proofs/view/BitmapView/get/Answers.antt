use Rattle.std.proofs.Common.{ap, sym, ◌∙◌, Some, Bool}
use Rattle.r4_base.proofs.Bits.{get-bits_of}
use Rattle.r4_bitmap.proofs.view.BitmapView.get.Goals as goal

pub returns : goal.returns
returns c = get-bits_of c.args.i c.args.self.now.block.now c.requires ∙ ap (λ (x : Bool). Some x) (sym c.bit.ensures)
