use Rattle.std.proofs.Common.{◌≡◌, ◌++◌, take}
use Rattle.r4_base.specs.Extents.{blocks_in, units_of as units_in_body}
use Rattle.r4_branch.specs.Pieces.{unit_pieces}
use Rattle.r4_branch.proofs.reading.add_extent.Given as goal

abbrev pub invariant-loop-i : goal.invariant-loop-i
invariant-loop-i l = record {
  at : l.blocks ≡ blocks_in (take l.i (units_in_body l.body));
  items : l.pieces.items ≡ l.initial.pieces.items ++ unit_pieces l.key 0 (take l.i (units_in_body l.body));
}
