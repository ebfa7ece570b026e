use Rattle.std.proofs.Common.{arith}
use Rattle.r4_base.specs.Image.{block_at}
use Rattle.r4_base.proofs.SmallImages.{below_count, not_refused}
use Rattle.r4_base.proofs.Superblocks.{read_lawful}
use Rattle.r4_node40.proofs.Accepted.{good}
use Rattle.r4_cell.proofs.laws.equal_keys_law.Goals as goal

pub returns : goal.returns
returns c = λ n to k image m super x y whole one first second same has.
    let blocks = (read_lawful n (block_at image 17) super one.format).0.blocks in
    let past = below_count n image m super to has one in
    let node = good (block_at image to) (whole.whole to (omega (arith, past, blocks))) (not_refused n image m super to has one) in
    let up = node.0.keys k x y first second in
    absurd (omega (arith, up, same))
