use Rattle.r4_rows.proofs.PackedSlum.{packed_slum}
use Rattle.r4_rows.proofs.slum_laws.packed_slums_are_squeezed.Goals as goal

pub returns : goal.returns
returns c = λ t slum cells parent over is. packed_slum t slum cells parent over is
