use Rattle.r4_extent_commands.proofs.Told.{lies_in_body}
use Rattle.r4_extent_commands.proofs.laws.edits_lie_in_one_body.Goals as goal

pub returns : goal.returns
returns g = λ c s in_extents bytes lawful sizes. lies_in_body c s in_extents bytes lawful sizes
