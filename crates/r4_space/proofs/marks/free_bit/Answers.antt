use Rattle.r4_space.proofs.MarkLaws.{shows_clear}
use Rattle.r4_space.proofs.marks.free_bit.Goals as goal

pub returns-then-b-first-lt-BITMAP_BITS-clause-bits : goal.returns-then-b-first-lt-BITMAP_BITS-clause-bits
returns-then-b-first-lt-BITMAP_BITS-clause-bits c k within =
    rw c.if-freed.true (shows_clear c.args.block.now c.set_free.new.block c.args.first c.args.b k c.set_free.ensures.bits c.if-b-first.true c.if-b-first-lt-BITMAP_BITS.true within)
