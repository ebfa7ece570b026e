use Rattle.r4_edit.proofs.AmongExtents.{among_extents}
use Rattle.r4_edit.proofs.graft_laws.keys_of_an_extent_are_among_extents.Goals as goal

pub returns : goal.returns
returns c = among_extents
