use Rattle.r4_patch.proofs.Placed.{placed_part}
use Rattle.r4_patch.proofs.Sets.{part_meets_after}
use Rattle.r4_patch.proofs.parts.placing_keeps_a_part.Goals as goal

pub returns : goal.returns
returns c = record {
  part = λ p t root ip it m. placed_part p t root ip it m.meets m.unnamed;
  second = part_meets_after;
}
