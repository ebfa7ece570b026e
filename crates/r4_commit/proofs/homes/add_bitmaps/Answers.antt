use Rattle.std.proofs.Common.{[], ◌∷◌, arith, length-append}
use Rattle.r4_commit.proofs.NewHomes.{bitmaps_more}
use Rattle.r4_commit.proofs.homes.add_bitmaps.Goals as goal

pub loop-block-preserved : goal.loop-block-preserved
loop-block-preserved c = record {
  homes = bitmaps_more c.args.homes.now.items c.loop-block.homes.items c.push.new.self.items c.loop-block.yielded c.in-Some.block c.loop-block.n c.bitmap_block.result.0 c.loop-block.invariant.homes c.loop-block.invariant.counted c.bitmap_block.ensures c.in_ok-push.ensures.items;
  counted = omega (arith, c.loop-block.invariant.counted, length-append c.loop-block.yielded (c.in-Some.block ∷ []));
}
