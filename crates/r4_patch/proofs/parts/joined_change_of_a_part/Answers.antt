use Rattle.r4_patch.proofs.Changes.{joined_cells, joined_change, joined_meets, joined_root, joined_unnamed}
use Rattle.r4_patch.proofs.parts.joined_change_of_a_part.Goals as goal

pub returns : goal.returns
returns c = record { change = joined_change; meets = joined_meets; unnamed = joined_unnamed; cells = joined_cells; root = joined_root }
