use Rattle.r4_extent_moves.proofs.Moved.{moves}
use Rattle.r4_extent_moves.proofs.laws.moved_bodies_are_edited.Goals as goal

pub returns : goal.returns
returns c = λ b e u raw n after at to moved h m keys set. moves b e u raw n h at to m after moved keys set
