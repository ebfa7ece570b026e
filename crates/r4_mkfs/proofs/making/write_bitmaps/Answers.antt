use Rattle.std.proofs.Common.{ℕ, ◌≡◌, ◌<◌, arith, sym, subst}
use Rattle.r4_base.specs.Bitmap.{bitmap_block, bitmap_count}
use Rattle.r4_mkfs.specs.Mkfs.{HasBitmaps, IsRest}
use Rattle.r4_outside.proofs.Moments.{goes_same, goes_both, spares_same, spares_write}
use Rattle.r4_mkfs.proofs.Writing.{no_bitmaps, one_more_written, agrees_same, agrees_set, block_below, rest_bitmap}
use Rattle.r4_mkfs.proofs.making.write_bitmaps.Goals as goal

inside : (n k b : ℕ) → k < bitmap_count n → b ≡ bitmap_block k → IsRest n b
inside n k b lt is = subst (IsRest n) (sym is) (rest_bitmap n k lt)

pub loop-n-init : goal.loop-n-init
loop-n-init g c = record { goes = goes_same _; bitmaps = λ tells. no_bitmaps _ _; others = agrees_same _ _; spares = spares_same _ _; once = λ fits. omega arith }

pub write-requires : goal.write-requires
write-requires g c =
    let below = block_below c.args.blocks c.loop-n.n c.requires.lawful (omega (arith, c.loop-n-test.true, c.bitmap_count-n-end.ensures)) in
    omega (arith, below, c.bitmap_block.ensures, c.requires.blocks, c.loop-n.invariant.goes.blocks)

pub returns-in_err-write-clause-spares : goal.returns-in_err-write-clause-spares
returns-in_err-write-clause-spares g c = spares_write (IsRest c.args.blocks) _ _ _ c.loop-n.invariant.spares c.loop-n.invariant.goes c.write.result c.bitmap_block.result.0 _ (inside c.args.blocks c.loop-n.n _ (omega (arith, c.loop-n-test.true, c.bitmap_count-n-end.ensures)) c.bitmap_block.ensures) c.write.ensures

pub loop-n-preserved : goal.loop-n-preserved
loop-n-preserved g c = record {
  goes = goes_both _ _ _ c.loop-n.invariant.goes c.write.ensures.goes;
  bitmaps = λ tells. one_more_written c.args.blocks c.loop-n.n c.bitmap_block.result.0 (g.D.Device.state c.loop-n.dev) (g.D.Device.state c.write.new.self) c.fill_bitmap.new.block
      (c.loop-n.invariant.goes.reads.1 tells)
      (let below = block_below c.args.blocks c.loop-n.n c.requires.lawful (omega (arith, c.loop-n-test.true, c.bitmap_count-n-end.ensures)) in omega (arith, below, c.requires.blocks, c.loop-n.invariant.goes.blocks))
      c.bitmap_block.ensures (c.in_ok-write.ensures.seen) c.fill_bitmap.ensures.bits c.fill_bitmap.ensures.front (c.loop-n.invariant.bitmaps tells);
  spares = spares_write (IsRest c.args.blocks) _ _ _ c.loop-n.invariant.spares c.loop-n.invariant.goes c.write.result c.bitmap_block.result.0 _ (inside c.args.blocks c.loop-n.n _ (omega (arith, c.loop-n-test.true, c.bitmap_count-n-end.ensures)) c.bitmap_block.ensures) c.write.ensures;
  others = agrees_set (IsRest c.args.blocks) _ _ _ c.bitmap_block.result.0 c.fill_bitmap.new.block
      (inside c.args.blocks c.loop-n.n _ (omega (arith, c.loop-n-test.true, c.bitmap_count-n-end.ensures)) c.bitmap_block.ensures) c.in_ok-write.ensures.seen c.loop-n.invariant.others;
  once = λ fits. let so_far = c.loop-n.invariant.once (omega (arith, fits)) in omega (arith, so_far, c.write.ensures.clock, fits);
}

pub returns-clause-bitmaps : goal.returns-clause-bitmaps
returns-clause-bitmaps g c = λ tells. subst (λ (n : ℕ). HasBitmaps c.args.blocks n (g.D.Device.state c.loop-n.dev).seen) (omega (arith, c.loop-n-test.false, c.loop-n.auto.n-end, c.bitmap_count-n-end.ensures)) (c.loop-n.invariant.bitmaps tells)
