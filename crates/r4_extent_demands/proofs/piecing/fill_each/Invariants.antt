use Rattle.std.proofs.Common.{◌≡◌}
use Rattle.std.specs.List.{flat_map}
use Rattle.std.specs.Prelude.{take}
use Rattle.r4_content.specs.Held.{edits_of}
use Rattle.r4_bodies.specs.r4_leaf_edits.r4_reach.Needs.{filled}
use Rattle.r4_extent_demands.proofs.piecing.fill_each.Given as goal

abbrev pub invariant-loop-piece : goal.invariant-loop-piece
invariant-loop-piece l = l.filled.items ≡ flat_map (filled l.body (edits_of l.edits)) (take l.piece-index l.pieces)
