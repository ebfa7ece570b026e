use Rattle.r4_edit.proofs.HalvedTwig.{no_piece}
use Rattle.r4_edit_testing.proofs.HoleTwig.{two_holes}
use Rattle.r4_edit_testing.proofs.holes.are_two_holes.Goals as goal

pub returns-then-is_hole : goal.returns-then-is_hole
returns-then-is_hole c second = two_holes c.args.pieces.now no_piece c.in-len2.len_at_least c.in-len2.len_below
    (c.is_hole.ensures c.if-is_hole.true) (c.is_hole-then-is_hole.ensures second)
