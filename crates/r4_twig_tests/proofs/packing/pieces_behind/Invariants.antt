use Rattle.std.proofs.Common.{◌*◌, ◌^◌, ◌≤◌}
use Rattle.r4_branch.specs.Pieces.{AreTwigPieces}
use Rattle.r4_twig_tests.proofs.packing.pieces_behind.Given as goal

abbrev pub invariant-loop-row : goal.invariant-loop-row
invariant-loop-row l = record {
  pieces : AreTwigPieces 0 (4096 * l.end) l.pieces.items;
  within : l.end ≤ 2 ^ 52;
}
