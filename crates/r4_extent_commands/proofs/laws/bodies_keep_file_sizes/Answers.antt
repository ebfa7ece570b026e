use Rattle.r4_extent_commands.proofs.Told.{keeps_file_size}
use Rattle.r4_extent_commands.proofs.laws.bodies_keep_file_sizes.Goals as goal

pub returns : goal.returns
returns g = λ c s in_extents bytes r lawful sizes. keeps_file_size c s in_extents bytes r lawful sizes
