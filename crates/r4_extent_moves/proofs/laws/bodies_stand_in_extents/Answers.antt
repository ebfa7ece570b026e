use Rattle.r4_extent_moves.proofs.Standing.{kinds}
use Rattle.r4_extent_moves.proofs.laws.bodies_stand_in_extents.Goals as goal

pub returns : goal.returns
returns c = λ b e u root p raw n after at to o a h m it meets effect set. kinds b e u root p raw n after at to h m it meets effect set o a
