use Rattle.std.proofs.Common.{◌≡◌, ◌∙◌, not, arith}
use Rattle.std.specs.Prelude.{count_by}
use Rattle.r4_base.specs.Bitmap.{bits_of}
use Rattle.r4_space.proofs.BitmapLaws.{free_more, free_none, free_all}
use Rattle.r4_space.proofs.check.count_all_free.Goals as goal

pub loop-bitmap-init : goal.loop-bitmap-init
loop-bitmap-init c = record { count = free_none c.args.bitmaps.now; most = omega arith }

pub loop-bitmap-preserved : goal.loop-bitmap-preserved
loop-bitmap-preserved c =
    let block = c.bitmap-item.result in
    let more = free_more c.loop-bitmap.bitmap-index block c.args.bitmaps.now c.loop-bitmap-test.true in
    let one : c.count_free-count.result ≡ count_by not (bits_of block) = rw c.bytes.ensures.value at c.count_free-count.ensures.count in
    record {
      count = rw (c.loop-bitmap.invariant.count, one, more, ← c.bitmap-item.is);
      most =
          let was = c.loop-bitmap.invariant.most in
          let few = c.count_free-count.ensures.most in
          omega arith;
    }

pub returns : goal.returns
returns c = c.loop-bitmap.invariant.count ∙ free_all c.loop-bitmap.bitmap-index c.args.bitmaps.now c.loop-bitmap-test.false
