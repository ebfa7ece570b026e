use Rattle.std.proofs.Common.{◌<◌, ◌≤◌, drop, length}
use Rattle.std.specs.Prelude.{All}
use Rattle.r4_base.specs.Key.{rank}
use Rattle.r4_content.specs.declared.seen.SeenPart.{SeenPart}
use Rattle.r4_seeing.specs.Known.{part_key}
use Rattle.r4_seeing.proofs.places.place_for.Given as goal

abbrev pub invariant-loop-at : goal.invariant-loop-at
invariant-loop-at l = (l.at ≤ length l.parts) × All (λ (p : SeenPart). rank l.from < rank (part_key p))
    (drop l.at l.parts)

abbrev pub decreases-loop-at : goal.decreases-loop-at
decreases-loop-at l = l.at
