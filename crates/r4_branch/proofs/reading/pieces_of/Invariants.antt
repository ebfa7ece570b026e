use Rattle.std.proofs.Common.{◌≡◌, take}
use Rattle.r4_node40.specs.View.{view_items}
use Rattle.r4_branch.specs.Pieces.{pieces_in}
use Rattle.r4_branch.proofs.reading.pieces_of.Given as goal

abbrev pub invariant-loop-i : goal.invariant-loop-i
invariant-loop-i l = l.pieces.items ≡ pieces_in (take l.i (view_items l.twig))
