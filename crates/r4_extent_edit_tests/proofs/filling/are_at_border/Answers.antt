use Rattle.r4_edit.proofs.HalvedTwig.{no_piece}
use Rattle.r4_base.specs.Key.{rank}
use Rattle.r4_extent_edit_tests.proofs.Filled.{two_borders}
use Rattle.r4_extent_edit_tests.proofs.filling.are_at_border.Goals as goal

pub returns-then-at_border : goal.returns-then-at_border
returns-then-at_border c second =
    two_borders (rank c.args.key.now) c.args.pieces.now no_piece c.in-len2.len_at_least c.in-len2.len_below
    (c.at_border.ensures c.if-at_border.true) (c.at_border-then-at_border.ensures second)
