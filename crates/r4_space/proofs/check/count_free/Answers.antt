use Rattle.std.proofs.Common.{◌≡◌, ◌∙◌, ◌*◌, arith}
use lib.Count.{ones-le}
use Rattle.r4_space.proofs.BitmapLaws.{count_whole}
use Rattle.r4_space.proofs.HalfLaws.{count_half}
use Rattle.r4_space.proofs.check.count_free.Goals as goal

pub loop-j-preserved : goal.loop-j-preserved
loop-j-preserved c = record {
  count =
      let one = count_half c.loop-j.j c.get32-half.result c.args.block.now c.loop-j-test.true c.get32-half.type_inv c.get32-half.ensures in
      let was = c.loop-j.invariant.count in
      let ones = c.from.ensures in
      let few = ones-le 32 c.get32-half.result c.get32-half.type_inv in
      omega arith;
  most =
      let was = c.loop-j.invariant.most in
      omega arith;
}

pub returns-clause-count : goal.returns-clause-count
returns-clause-count c =
    let at : 32 * c.loop-j.j ≡ 32736 = omega arith in
    c.loop-j.invariant.count ∙ rw at (count_whole c.args.block.now)
