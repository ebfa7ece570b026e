use Rattle.std.proofs.Common.{◌≡◌, map}
use Rattle.std.specs.Prelude.{take}
use Rattle.r4_bodies.specs.r4_marking.Marks.{heard_seen}
use Rattle.r4_bodies.specs.r4_leaf_edits.r4_reach.Needs.{without_gone}
use Rattle.r4_extent_demands.proofs.cutting.without_gone.Given as goal

abbrev pub invariant-loop-piece : goal.invariant-loop-piece
invariant-loop-piece l = l.left.items ≡ without_gone (map heard_seen l.heard) (take l.piece-index l.pieces)
