use Rattle.r4_edit.proofs.ExtentPieces.{small_graft}
use Rattle.r4_edit.proofs.graft_laws.an_extent_by_pieces.Goals as goal

pub returns : goal.returns
returns c = small_graft
